-- Tables in plain data.
use Rattle.std.specs.Prelude.{ℕ, List, refl}
use Rattle.std.specs.Coded.{Coded, code_by, coded×, coded_list, coded_option, coded_ℕ}
use Rattle.scopes.specs.declared.declaration.Declaration.{Declaration}
use Rattle.scopes.specs.contracts.declaration.Declaration as declaration
use Rattle.stages.specs.declared.stage.ResolvedStage.{ResolvedStage}
use Rattle.stages.specs.contracts.stage.ResolvedStage as stage
use Rattle.stages.specs.Naming.{Names}
use Rattle.stages.specs.Table.{StagesValue, TableValue}

-- stages in plain data, for generic code (own)
abbrev pub stages_code : Coded StagesValue
stages_code = code_by (List Declaration × (Names × List ResolvedStage))
    (coded× (coded_list declaration.the_row.coded) (coded× (coded_list (coded_option (coded_list coded_ℕ))) (coded_list stage.the_row.coded)))
    (λ t. (t.outer, (t.names, t.stages))) (λ p. record { outer = p.0; names = p.1.0; stages = p.1.1 }) (λ _. refl)

-- a table in plain data, for generic code (own)
abbrev pub table_code : Coded TableValue
table_code = code_by (List Declaration × (List ResolvedStage × ℕ)) (coded× (coded_list declaration.the_row.coded) (coded× (coded_list stage.the_row.coded) coded_ℕ))
    (λ t. (t.outer, (t.stages, t.target))) (λ p. record { outer = p.0; stages = p.1.0; target = p.1.1 }) (λ _. refl)

-- stages of their parts
abbrev pub stages_made : List Declaration → Names → List ResolvedStage → StagesValue
stages_made outer names stages = record { outer = outer; names = names; stages = stages }

-- a table of its parts
abbrev pub table_by : List Declaration → List ResolvedStage → ℕ → TableValue
table_by outer stages target = record { outer = outer; stages = stages; target = target }
