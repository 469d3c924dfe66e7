mod NearestLaws
