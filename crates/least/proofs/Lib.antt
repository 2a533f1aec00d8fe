mod BoundLaws
