pub mod MeasureLaws
