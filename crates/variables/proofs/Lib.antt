mod VariableLaws
