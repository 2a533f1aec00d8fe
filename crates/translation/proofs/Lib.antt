pub mod Listing
pub mod Places
pub mod LineLaws
pub mod ValueCounts
pub mod ProblemOrder
pub mod LineCounts
pub mod SectionSizes
