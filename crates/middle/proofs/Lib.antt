mod MiddleLaws
