mod RiseLaws
