mod EndLaws
