mod ChosenLaws
