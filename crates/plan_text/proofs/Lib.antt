pub mod PlanLineLaws
