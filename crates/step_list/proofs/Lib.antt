pub mod StepListLaws
