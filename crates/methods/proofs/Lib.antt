mod MethodLaws
