mod NoteByteLaws
