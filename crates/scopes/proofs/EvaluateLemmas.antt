-- One thing more of a line.
use Rattle.std.proofs.Common.{◌≡◌, ℕ, ◌+◌, ◌<◌, Bool, true, false, List, [], ◌∷◌, ◌++◌, map, Option, None, length, get_or, drop, refl, ap, sym, subst, ◌∙◌, append_assoc, append-nil}
use Rattle.std.specs.Prelude.{Result, Ok, Err, ◌&&◌}
use Rattle.std.specs.List.{list_all}
use Rattle.std.proofs.lemmas.Bool.{true≢false}
use Rattle.std.proofs.lemmas.List.{at_drop_more}
use Rattle.plain.specs.declared.fault.Fault.{Fault}
use Rattle.plain.specs.declared.fault.Fault.TheVariants.{Because, Memory}
use Rattle.expand.specs.Expanding.{worse, worst}
use Rattle.expand.specs.declared.fault.Unexpanded.{Unexpanded}
use Rattle.expand.proofs.WorseLaws.{worse-assoc, worse-none, worse_none-left}
use Rattle.plain.specs.VariableName.{is_variable_name}
use Rattle.instructions.specs.Instruction.{argument_names}
use Rattle.instructions.specs.declared.instruction.Argument.{Argument}
use Rattle.scopes.specs.Evaluate.{Says, Values}
use Rattle.scopes.specs.PrivateMaps.{arg_row_of}
use Rattle.scopes.specs.Scope.{HaveNames, names_in}
use Rattle.scopes.specs.PrivateEvaluate.{IsLonger, argument_row}

-- a loop along a line

-- what a line says so far, of items each of which says something and has something against it
pub record IsSoFar {X Y : Type 0} (say : X → Y) (fault : X → Option Unexpanded) (all rest : List X) (line : List Y) (so_far : Option Unexpanded) : Type 0 where
  pub faults : worse so_far (worst (map fault rest)) ≡ worst (map fault all)
  pub said : so_far ≡ None → line ++ map say rest ≡ map say all

pub so_far-begun : {X Y : Type 0} (say : X → Y) (fault : X → Option Unexpanded) (all : List X) (line : List Y) (so_far : Option Unexpanded) → line ≡ [] → so_far ≡ None → IsSoFar say fault all all line so_far
so_far-begun {X} {Y} say fault all line so_far h i = record {
  faults = ap (λ t. worse t (worst (map fault all))) i;
  said = λ _. ap (λ (ys : List Y). ys ++ map say all) h;
}

pub so_far-more : {X Y : Type 0} (say : X → Y) (fault : X → Option Unexpanded) (all : List X) (i : ℕ) (x : X) (line more : List Y) (so_far next : Option Unexpanded) → i < length all → x ≡ get_or all i x
    → IsLonger line so_far (say x) (fault x) more next → IsSoFar say fault all (drop i all) line so_far → IsSoFar say fault all (drop (i + 1) all) more next
so_far-more {X} {Y} say fault all i x line more so_far next lt is h b =
    let faults : worst (map fault (drop i all)) ≡ worse (fault x) (worst (map fault (drop (i + 1) all))) =
    at_drop_more (λ (xs : List X). worst (map fault xs)) all i x lt ∙ ap (λ (u : X). worse (fault u) (worst (map fault (drop (i + 1) all)))) (sym is) in
    let said : map say (drop i all) ≡ say x ∷ map say (drop (i + 1) all) =
    at_drop_more (λ (xs : List X). map say xs) all i x lt ∙ ap (λ (u : X). say u ∷ map say (drop (i + 1) all)) (sym is) in
    record {
      faults = ap (λ t. worse t (worst (map fault (drop (i + 1) all)))) h.0 ∙ worse-assoc so_far (fault x) (worst (map fault (drop (i + 1) all))) ∙ ap (λ t. worse so_far t) (sym faults) ∙ b.faults;
      said = λ n. ap (λ (ys : List Y). ys ++ map say (drop (i + 1) all)) (h.1 n) ∙ append_assoc line (say x ∷ []) (map say (drop (i + 1) all))
          ∙ ap (λ (ys : List Y). line ++ ys) (sym said) ∙ b.said (worse_none-left so_far (fault x) (sym h.0 ∙ n));
    }

says-by : {Y : Type 0} (line more : List Y) (fault other : Option Unexpanded) (r : Result (List Y) (Fault Unexpanded)) → fault ≡ other → (fault ≡ None → line ≡ more) → Says line fault r → Says more other r
says-by line more fault other (Ok found) h i s = (s.0 ∙ i s.1, sym h ∙ s.1)
says-by line more fault other (Err (Because why)) h i s = sym h ∙ s
says-by line more fault other (Err Memory) h i s = tt

pub so_far-ended : {X Y : Type 0} (say : X → Y) (fault : X → Option Unexpanded) (all rest : List X) (line : List Y) (so_far : Option Unexpanded) (r : Result (List Y) (Fault Unexpanded)) → rest ≡ []
    → IsSoFar say fault all rest line so_far → Says line so_far r → Says (map say all) (worst (map fault all)) r
so_far-ended {X} {Y} say fault all rest line so_far r e b s =
    let last : IsSoFar say fault all [] line so_far = subst (λ (xs : List X). IsSoFar say fault all xs line so_far) e b in
    says-by line (map say all) so_far (worst (map fault all)) r (sym (worse-none so_far) ∙ last.faults) (λ n. sym (append-nil line) ∙ last.said n) s

-- the names of an ARG's rows are those of its arguments

arguments_named : (before args outer : Values) (arguments : List Argument) → list_all is_variable_name (argument_names arguments) ≡ true → HaveNames (map arg_row_of (map (argument_row before args outer) arguments))
arguments_named before args outer [] h = refl
arguments_named before args outer (a ∷ arguments) h = by (is_variable_name a.name) h (arguments_named before args outer arguments)
  where
    by : (b : Bool) → (b && list_all is_variable_name (argument_names arguments)) ≡ true
        → (list_all is_variable_name (argument_names arguments) ≡ true → HaveNames (map arg_row_of (map (argument_row before args outer) arguments)))
        → (b && list_all is_variable_name (names_in (map arg_row_of (map (argument_row before args outer) arguments)))) ≡ true
    by true i rest = rest i
    by false i rest = absurd (true≢false (sym i))

pub rows_named : (before args outer : Values) (fault : Argument → Option Unexpanded) (arguments rest : List Argument) (line : List (List ℕ × Option (List ℕ))) (so_far : Option Unexpanded) → rest ≡ []
    → list_all is_variable_name (argument_names rest) ≡ list_all is_variable_name (argument_names arguments)
    → IsSoFar (argument_row before args outer) fault arguments rest line so_far → so_far ≡ None → HaveNames (map arg_row_of line)
rows_named before args outer fault arguments rest line so_far over names b none =
    let last : IsSoFar (argument_row before args outer) fault arguments [] line so_far = subst (λ (xs : List Argument). IsSoFar (argument_row before args outer) fault arguments xs line so_far) over b in
    let good : list_all is_variable_name (argument_names arguments) ≡ true = sym names ∙ ap (λ (xs : List Argument). list_all is_variable_name (argument_names xs)) over in
    subst (λ (rows : List (List ℕ × Option (List ℕ))). HaveNames (map arg_row_of rows)) (sym (sym (append-nil line) ∙ last.said none)) (arguments_named before args outer arguments good)
