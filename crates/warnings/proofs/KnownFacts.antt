-- How names are found in rows to which they were added one after another.
use Rattle.std.proofs.Common.{◌≡◌, ◌<◌, ◌≤◌, ◌+◌, ◌||◌, ◌++◌, ℕ, suc, Bool, true, false, cond, List, [], ◌∷◌, Option, Some, None, option_map, bytes_eq, drop, get_or, length, arith, refl, sym, ap, ◌∙◌, if◌then◌else◌}
use Rattle.std.proofs.Math.Bool.{or_assoc, or-false}
use Rattle.std.proofs.Math.Path.{fun_ext}
use Rattle.std.proofs.Math.Seq.{drop-cons}
use Rattle.std.proofs.lemmas.Bool.{true≢false}
use Rattle.std.proofs.lemmas.List.{append_assoc, drop_all}
use Rattle.std.proofs.lemmas.List.Folds.{list_any-append}
use Rattle.std.proofs.lemmas.Slice.Eq.{bytes_eq-Decides}
use Rattle.std.specs.List.{cons_option, filter_map, list_any}
use Rattle.std.specs.Map.{lookup}
use Rattle.std.specs.Str.{str_to_ascii_lowercase}
use Rattle.named.specs.Rows.{add_row, has_row}
use Rattle.named.specs.declared.present.Present.{Present}
use Rattle.instructions.specs.Instruction.{Instruction}
use Rattle.instructions.specs.declared.instruction.Argument.{Argument}
use Rattle.scopes.specs.Evaluate.{Values}
use Rattle.warnings.specs.Known.{Known, begins_stage, defaults, given_name, given_names, known_of, stage_line, stage_lines}
use Rattle.warnings.specs.PrivateKnown.{AddsNames, KnowsFile, add_some, default_row, known_by}
use Rattle.warnings.specs.declared.known.Known as declared

module _ {V : Type 0} where
  -- a name that has a row is found there, whatever comes after
  found_first : (name : List ℕ) (rows more : List (List ℕ × V)) → has_row name rows ≡ true → lookup (bytes_eq name) (rows ++ more) ≡ lookup (bytes_eq name) rows
  found_first name [] more h = absurd (true≢false (sym h))
  found_first name (row ∷ rows) more h = by (bytes_eq name row.0) (found_first name rows more) h
    where
      by : (b : Bool) → (has_row name rows ≡ true → lookup (bytes_eq name) (rows ++ more) ≡ lookup (bytes_eq name) rows) → (b || has_row name rows) ≡ true
          → cond b (Some row.1) (lookup (bytes_eq name) (rows ++ more)) ≡ cond b (Some row.1) (lookup (bytes_eq name) rows)
      by true rest h = refl
      by false rest h = rest h

  -- a row of another name isn't found
  passed : (name other : List ℕ) (rows more : List (List ℕ × V)) (value : V) → bytes_eq name other ≡ false
      → lookup (bytes_eq name) (rows ++ (other, value) ∷ more) ≡ lookup (bytes_eq name) (rows ++ more)
  passed name other [] more value apart = ap (λ b. cond b (Some value) (lookup (bytes_eq name) more)) apart
  passed name other (row ∷ rows) more value apart = ap (λ o. cond (bytes_eq name row.0) (Some row.1) o) (passed name other rows more value apart)

  -- the same text has the same rows
  has_same : (name other : List ℕ) (rows : List (List ℕ × V)) → bytes_eq name other ≡ true → has_row other rows ≡ true → has_row name rows ≡ true
  has_same name other rows same h = ap (λ n. has_row n rows) ((bytes_eq-Decides name other).0 same) ∙ h

  -- a row whose name has one above finds nothing
  kept : (name other : List ℕ) (rows more : List (List ℕ × V)) (value : V) → has_row other rows ≡ true
      → lookup (bytes_eq name) (rows ++ (other, value) ∷ more) ≡ lookup (bytes_eq name) (rows ++ more)
  kept name other rows more value has = by (bytes_eq name other) refl
    where
      by : (b : Bool) → bytes_eq name other ≡ b → lookup (bytes_eq name) (rows ++ (other, value) ∷ more) ≡ lookup (bytes_eq name) (rows ++ more)
      by true same = let h = has_same name other rows same has in found_first name rows ((other, value) ∷ more) h ∙ sym (found_first name rows more h)
      by false apart = passed name other rows more value apart

  -- a name is found in rows to which one was added as where it is simply put last
  pub rows_step : (name other : List ℕ) (rows more : List (List ℕ × V)) (value : V)
      → lookup (bytes_eq name) (add_row rows other value ++ more) ≡ lookup (bytes_eq name) (rows ++ (other, value) ∷ more)
  rows_step name other rows more value = by (has_row other rows) refl
    where
      by : (b : Bool) → has_row other rows ≡ b
          → lookup (bytes_eq name) ((if b then rows else rows ++ (other, value) ∷ []) ++ more) ≡ lookup (bytes_eq name) (rows ++ (other, value) ∷ more)
      by true has = sym (kept name other rows more value has)
      by false none = ap (lookup (bytes_eq name)) (append_assoc rows ((other, value) ∷ []) more)

  -- a name has a row after one was added if it had one or is that one's
  pub has_step : (name other : List ℕ) (rows : List (List ℕ × V)) (value : V) → has_row name (add_row rows other value) ≡ (has_row name rows || bytes_eq name other)
  has_step name other rows value = by (has_row other rows) refl
    where
      within : (b : Bool) → bytes_eq name other ≡ b → has_row other rows ≡ true → has_row name rows ≡ (has_row name rows || b)
      within true same has = let h = has_same name other rows same has in h ∙ sym (ap (λ c. c || true) h)
      within false apart has = sym (or-false (has_row name rows))

      by : (b : Bool) → has_row other rows ≡ b → has_row name (if b then rows else rows ++ (other, value) ∷ []) ≡ (has_row name rows || bytes_eq name other)
      by true has = within (bytes_eq name other) refl has
      by false none = list_any-append (λ row. bytes_eq name row.0) rows ((other, value) ∷ []) ∙ ap (λ b. has_row name rows || b) (or-false (bytes_eq name other))

-- a list from one of its items on
pub dropped : {X : Type 0} (xs : List X) (index : ℕ) (x : X) → index < length xs → x ≡ get_or xs index x → drop index xs ≡ x ∷ drop (index + 1) xs
dropped xs index x lt here =
    let next : suc index ≡ index + 1 = omega arith in
    drop-cons xs index x lt ∙ (ap (λ y. y ∷ drop (suc index) xs) (sym here) ∙ ap (λ n. x ∷ drop n xs) next)

-- stages

some_found : (name : List ℕ) (rows : List (List ℕ × ℕ)) (row : Option (List ℕ × ℕ)) (more : List (List ℕ × ℕ))
    → lookup (bytes_eq name) (add_some rows row ++ more) ≡ lookup (bytes_eq name) (rows ++ cons_option row more)
some_found name rows None more = refl
some_found name rows (Some row) more = rows_step name row.0 rows more row.1

-- one instruction more
pub stage_turn : (name : List ℕ) (is : List Instruction) (index : ℕ) (i : Instruction) (rows new : List (List ℕ × ℕ)) (all : Option ℕ)
    → index < length is → i ≡ get_or is index i → new ≡ add_some rows (stage_line i)
    → lookup (bytes_eq name) (rows ++ stage_lines (drop index is)) ≡ all → lookup (bytes_eq name) (new ++ stage_lines (drop (index + 1) is)) ≡ all
stage_turn name is index i rows new all lt here added far =
    ap (λ (rs : List (List ℕ × ℕ)). lookup (bytes_eq name) (rs ++ stage_lines (drop (index + 1) is))) added
    ∙ (some_found name rows (stage_line i) (stage_lines (drop (index + 1) is))
    ∙ (ap (λ (js : List Instruction). lookup (bytes_eq name) (rows ++ stage_lines js)) (sym (dropped is index i lt here)) ∙ far))

-- defaults

some_given : (name : List ℕ) (rows : List (List ℕ × Present)) (other : Option (List ℕ)) (rest : List (List ℕ)) (value : Present)
    → (has_row name (add_some rows (option_map (λ it. (it, value)) other)) || list_any (bytes_eq name) rest)
    ≡ (has_row name rows || list_any (bytes_eq name) (cons_option other rest))
some_given name rows None rest value = refl
some_given name rows (Some other) rest value =
    ap (λ b. b || list_any (bytes_eq name) rest) (has_step name other rows value)
    ∙ or_assoc (has_row name rows) (bytes_eq name other) (list_any (bytes_eq name) rest)

-- one argument more
pub argument_turn : (name : List ℕ) (arguments : List Argument) (index : ℕ) (a : Argument) (rows new : List (List ℕ × Present)) (all : Bool)
    → index < length arguments → a ≡ get_or arguments index a → new ≡ add_some rows (default_row a)
    → (has_row name rows || list_any (bytes_eq name) (filter_map given_name (drop index arguments))) ≡ all
    → (has_row name new || list_any (bytes_eq name) (filter_map given_name (drop (index + 1) arguments))) ≡ all
argument_turn name arguments index a rows new all lt here added far =
    ap (λ (rs : List (List ℕ × Present)). has_row name rs || list_any (bytes_eq name) (filter_map given_name (drop (index + 1) arguments))) added
    ∙ (some_given name rows (given_name a) (filter_map given_name (drop (index + 1) arguments)) (record {})
    ∙ (ap (λ (rest : List Argument). has_row name rows || list_any (bytes_eq name) (filter_map given_name rest)) (sym (dropped arguments index a lt here)) ∙ far))

-- no name
pub adds_none : (rows : List (List ℕ × Present)) → AddsNames [] rows rows
adds_none rows name = sym (or-false (has_row name rows))

-- one instruction more before the first FROM
pub given_turn : (name : List ℕ) (is : List Instruction) (index : ℕ) (i : Instruction) (rows new : List (List ℕ × Present)) (all : Bool)
    → index < length is → i ≡ get_or is index i → begins_stage i.kind ≡ false → AddsNames (defaults i.kind) rows new
    → (has_row name rows || list_any (bytes_eq name) (given_names (drop index is))) ≡ all
    → (has_row name new || list_any (bytes_eq name) (given_names (drop (index + 1) is))) ≡ all
given_turn name is index i rows new all lt here begins adds far =
    ap (λ b. b || list_any (bytes_eq name) (given_names (drop (index + 1) is))) (adds name)
    ∙ (or_assoc (has_row name rows) (list_any (bytes_eq name) (defaults i.kind)) (list_any (bytes_eq name) (given_names (drop (index + 1) is)))
    ∙ (ap (λ b. has_row name rows || b) (sym (list_any-append (bytes_eq name) (defaults i.kind) (given_names (drop (index + 1) is))))
    ∙ (ap (λ b. has_row name rows || list_any (bytes_eq name) (if b then [] else defaults i.kind ++ given_names (drop (index + 1) is))) (sym begins)
    ∙ (ap (λ (js : List Instruction). has_row name rows || list_any (bytes_eq name) (given_names js)) (sym (dropped is index i lt here)) ∙ far))))

-- at the first FROM
pub given_ended : (name : List ℕ) (is : List Instruction) (index : ℕ) (i : Instruction) (rows : List (List ℕ × Present)) (all : Bool)
    → index < length is → i ≡ get_or is index i → begins_stage i.kind ≡ true
    → (has_row name rows || list_any (bytes_eq name) (given_names (drop index is))) ≡ all → has_row name rows ≡ all
given_ended name is index i rows all lt here begins far =
    sym (or-false (has_row name rows))
    ∙ (ap (λ b. has_row name rows || list_any (bytes_eq name) (if b then [] else defaults i.kind ++ given_names (drop (index + 1) is))) (sym begins)
    ∙ (ap (λ (js : List Instruction). has_row name rows || list_any (bytes_eq name) (given_names js)) (sym (dropped is index i lt here)) ∙ far))

-- where there is no FROM
pub given_over : (name : List ℕ) (is : List Instruction) (index : ℕ) (rows : List (List ℕ × Present)) (all : Bool) → length is ≤ index
    → (has_row name rows || list_any (bytes_eq name) (given_names (drop index is))) ≡ all → has_row name rows ≡ all
given_over name is index rows all over far =
    sym (or-false (has_row name rows))
    ∙ (ap (λ (js : List Instruction). has_row name rows || list_any (bytes_eq name) (given_names js)) (sym (drop_all index is over)) ∙ far)

-- the code knows what is known
pub known_same : (args : Values) (is : List Instruction) (known : declared.Known) → KnowsFile is known → known_by args known ≡ known_of args is
known_same args is known knows =
    ap (λ (stage : List ℕ → Option ℕ). let it : Known = record { argument = args; stage = stage; is_given = λ name. has_row name known.given } in it)
    (fun_ext (λ name. knows.stages (str_to_ascii_lowercase name)))
    ∙ ap (λ (given : List ℕ → Bool). let it : Known = record { argument = args; stage = λ name. lookup (bytes_eq (str_to_ascii_lowercase name)) (stage_lines is); is_given = given } in it)
    (fun_ext (λ name. knows.given name))
