mod MissedLaws
