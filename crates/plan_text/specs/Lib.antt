pub mod PlanLines
