mod JsonFacts
