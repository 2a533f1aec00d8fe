mod StackLineLaws
