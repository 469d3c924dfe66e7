-- Facts on the images that a file names.
use Rattle.std.proofs.Common.{◌≡◌, ◌<◌, ◌≤◌, ◌++◌, ◌+◌, ℕ, Bool, true, false, List, [], ◌∷◌, Option, Some, None, length, take, drop, get_or, refl, sym, ap, ◌∙◌, subst, arith, if◌then◌else◌}
use Rattle.std.specs.Prelude.{Result, IfOk, is_some, not}
use Rattle.std.specs.Option.{is_none}
use Rattle.std.proofs.lemmas.Bool.{true≢false}
use Rattle.std.proofs.lemmas.List.{append_assoc, append-nil, drop_all}
use Rattle.plain.specs.declared.memory.Memory.{Memory as Want}
use Rattle.expand.specs.Value.{Parts}
use Rattle.expand.specs.declared.fault.Unexpanded.{Unexpanded}
use Rattle.expand.specs.declared.fault.Unexpanded.TheVariants.{TooLong, Required}
use Rattle.expand.specs.declared.reason.Reason.{Reason}
use Rattle.instructions.specs.Reason.{reason}
use Rattle.instructions.specs.declared.instruction.Argument.{Argument}
use Rattle.instructions.specs.Instruction.{Instruction}
use Rattle.instructions.specs.declared.instruction.InstructionKind.{InstructionKind}
use Rattle.instructions.specs.declared.instruction.InstructionKind.TheVariants.{From, Arg, Env, Label, Expose, User, Workdir, StopSignal, Volume, Shell, Cmd, Entrypoint, Run, Copy}
use Rattle.scopes.specs.Scope.{value_in, kept}
use Rattle.scopes.specs.Evaluate.{Values, arg_line, arg_fault}
use Rattle.scopes.specs.declared.declaration.Declaration.{Declaration}
use Rattle.stages.specs.Naming.{Names}
use Rattle.stages.specs.Before.{begun, declared_by, stage_names, outer_scope}
use Rattle.stages.specs.Due.{argument_due, outer_fault}
use Rattle.stages.specs.ImageNames.{images_at, on_line, is_refused_argument, image_names_after}
use Rattle.stages.specs.declared.image_name.ImageName.{ImageName}
use Rattle.stages.specs.PrivateFaults.{outer_with, outer_other, outer_by, names_by, Judges}
use Rattle.stages.specs.PrivateImageNames.{GoesOn}
use Rattle.stages.proofs.FaultsFacts.{made_as, names_as, few_as, taken, dropped}

-- whether the lines after an instruction are judged

none_some : {X : Type 0} (x : X) → None ≡ Some x → ⊥
none_some x e = cc

some_none : {X : Type 0} (x : X) → Some x ≡ None → ⊥
some_none x e = cc

-- an ARG is refused just where one of its texts has no value
fault_none : (fault : Option Unexpanded) → reason (argument_due fault) fault ≡ None → is_some fault ≡ false
fault_none None e = refl
fault_none (Some TooLong) e = absurd (some_none _ e)
fault_none (Some (Required text)) e = absurd (some_none _ e)

fault_some : (fault : Option Unexpanded) (why : Reason) → reason (argument_due fault) fault ≡ Some why → is_some fault ≡ true
fault_some None why e = absurd (none_some why e)
fault_some (Some other) why e = refl

declared_goes : (args : Values) (outer new : List Declaration) (arguments : List Argument) (why : Option Reason)
    → Judges (argument_due (arg_fault (value_in outer) args arguments)) (arg_fault (value_in outer) args arguments) (kept (outer ++ arg_line (value_in outer) args (λ name. None) arguments)) outer new why
    → GoesOn (is_some (outer_fault args outer (Some arguments))) (outer_with args outer (Some arguments)) new (is_none why)
declared_goes args outer new arguments None judged = (fault_none (arg_fault (value_in outer) args arguments) judged.0, judged.1)
declared_goes args outer new arguments (Some why) judged = fault_some (arg_fault (value_in outer) args arguments) why judged.0

none_goes : (why : Option Reason) (goes : Bool) → is_some why ≡ not goes → goes ≡ is_none why
none_goes None true e = refl
none_goes None false e = absurd (true≢false (sym e))
none_goes (Some why) true e = absurd (true≢false e)
none_goes (Some why) false e = refl

pub outer_some_goes : (args : Values) (outer new : List Declaration) (declared : Option (List Argument)) (arguments : List Argument) (why : Option Reason) (goes : Bool)
    → declared ≡ Some arguments
    → Judges (argument_due (arg_fault (value_in outer) args arguments)) (arg_fault (value_in outer) args arguments) (kept (outer ++ arg_line (value_in outer) args (λ name. None) arguments)) outer new why
    → is_some why ≡ not goes
    → GoesOn (is_some (outer_fault args outer declared)) (outer_with args outer declared) new goes
outer_some_goes args outer new declared arguments why goes says judged is =
    subst (λ d. GoesOn (is_some (outer_fault args outer d)) (outer_with args outer d) new goes) (sym says)
    (subst (GoesOn (is_some (outer_fault args outer (Some arguments))) (outer_with args outer (Some arguments)) new) (sym (none_goes why goes is))
    (declared_goes args outer new arguments why judged))

pub outer_none_goes : (args : Values) (outer : List Declaration) (declared : Option (List Argument)) → declared ≡ None
    → GoesOn (is_some (outer_fault args outer declared)) (outer_with args outer declared) outer true
outer_none_goes args outer declared none =
    subst (λ d. GoesOn (is_some (outer_fault args outer d)) (outer_with args outer d) outer true) (sym none) (refl, refl)

pub other_outer_goes : (args : Values) (outer new : List Declaration) (names : Names) (declared : Option (List Argument)) (result : Result Bool Want) → names ≡ []
    → IfOk result (GoesOn (is_some (outer_fault args outer declared)) (outer_with args outer declared) new)
    → IfOk result (GoesOn (is_refused_argument args outer names declared) (outer_other args outer names declared) new)
other_outer_goes args outer new names declared result none h =
    subst (λ ns. IfOk result (GoesOn (is_refused_argument args outer ns declared) (outer_other args outer ns declared) new)) (sym none) h

pub other_inner_goes : (args : Values) (outer : List Declaration) (names : Names) (declared : Option (List Argument)) → (names ≡ [] → ⊥)
    → GoesOn (is_refused_argument args outer names declared) (outer_other args outer names declared) outer true
other_inner_goes args outer [] declared some = absurd (some refl)
other_inner_goes args outer (name ∷ names) declared some = (refl, refl)

-- a FROM declares nothing
begun_declares : (kind : InstructionKind) (stage : Parts × Option (List ℕ)) → begun kind ≡ Some stage → declared_by kind ≡ None
begun_declares (From image name) stage begins = refl
begun_declares (Arg arguments) stage begins = absurd (none_some stage begins)
begun_declares (Env assignments) stage begins = refl
begun_declares (Label labels) stage begins = refl
begun_declares (Expose ports) stage begins = refl
begun_declares (User user) stage begins = refl
begun_declares (Workdir path) stage begins = refl
begun_declares (StopSignal signal) stage begins = refl
begun_declares (Volume paths) stage begins = refl
begun_declares (Shell words) stage begins = refl
begun_declares (Cmd command) stage begins = refl
begun_declares (Entrypoint command) stage begins = refl
begun_declares (Run mounts command) stage begins = refl
begun_declares (Copy sources destination flags) stage begins = refl

no_argument : (args : Values) (outer : List Declaration) (names : Names) → is_refused_argument args outer names None ≡ false
no_argument args outer [] = refl
no_argument args outer (name ∷ names) = refl

pub begun_goes : (args : Values) (outer : List Declaration) (names : Names) (kind : InstructionKind) (stage : Parts × Option (List ℕ)) → begun kind ≡ Some stage
    → GoesOn (is_refused_argument args outer names (declared_by kind)) (outer_by args outer names (declared_by kind) (begun kind)) outer true
begun_goes args outer names kind stage begins = (
  ap (λ d. is_refused_argument args outer names d) (begun_declares kind stage begins) ∙ no_argument args outer names,
  sym (ap (λ b. outer_by args outer names (declared_by kind) b) begins),
)

pub other_goes : (args : Values) (outer new : List Declaration) (names lent : Names) (kind : InstructionKind) (result : Result Bool Want)
    → begun kind ≡ None → lent ≡ names
    → IfOk result (GoesOn (is_refused_argument args outer lent (declared_by kind)) (outer_other args outer lent (declared_by kind)) new)
    → IfOk result (GoesOn (is_refused_argument args outer names (declared_by kind)) (outer_by args outer names (declared_by kind) (begun kind)) new)
other_goes args outer new names lent kind result begins same h =
    subst (λ b. IfOk result (GoesOn (is_refused_argument args outer names (declared_by kind)) (outer_by args outer names (declared_by kind) b) new)) (sym begins)
    (subst (λ ns. IfOk result (GoesOn (is_refused_argument args outer ns (declared_by kind)) (outer_other args outer ns (declared_by kind)) new)) same h)

-- what is known after some instructions, and which names are still to come
pub record NamesSoFar (args : Values) (all : List ImageName) (done rest : List Instruction) (count : ℕ) (outer : List Declaration) (names : Names) (found : List ImageName) : Type 0 where
  pub outer_is : outer ≡ outer_scope args done
  pub names_are : names ≡ stage_names done
  pub few : length names ≤ count
  pub named : found ++ image_names_after args done rest ≡ all

pub names_first : (args : Values) (is : List Instruction) (outer : List Declaration) (names : Names) (found : List ImageName) → outer ≡ [] → names ≡ [] → found ≡ []
    → NamesSoFar args (image_names_after args [] is) [] is 0 outer names found
names_first args is outer names found no_scope no_names no_images = record {
  outer_is = no_scope;
  names_are = no_names;
  few = let h = ap length no_names in omega (arith, h);
  named = ap (λ xs. xs ++ image_names_after args [] is) no_images;
}

-- the names from an instruction on, by what is known before it
after_as : (args : Values) (done : List Instruction) (i : Instruction) (rest : List Instruction) (outer : List Declaration) (names : Names) (is_refused : Bool)
    → outer ≡ outer_scope args done → names ≡ stage_names done → is_refused_argument args outer names (declared_by i.kind) ≡ is_refused
    → on_line i.line (images_at outer names i.kind) ++ (if is_refused then [] else image_names_after args (done ++ i ∷ []) rest)
    ≡ image_names_after args done (i ∷ rest)
after_as args done i rest outer names is_refused outer_is names_are is =
    let more = image_names_after args (done ++ i ∷ []) rest in
    ap (λ r. on_line i.line (images_at outer names i.kind) ++ (if r then [] else more)) (sym is)
    ∙ (ap (λ ns. on_line i.line (images_at outer ns i.kind) ++ (if is_refused_argument args outer ns (declared_by i.kind) then [] else more)) names_are
    ∙ ap (λ scope. on_line i.line (images_at scope (stage_names done) i.kind) ++ (if is_refused_argument args scope (stage_names done) (declared_by i.kind) then [] else more)) outer_is)

named_as : (args : Values) (all : List ImageName) (done : List Instruction) (i : Instruction) (rest : List Instruction) (count : ℕ) (outer : List Declaration) (names : Names)
    (found more : List ImageName) (is_refused : Bool) → NamesSoFar args all done (i ∷ rest) count outer names found
    → more ≡ found ++ on_line i.line (images_at outer names i.kind) → is_refused_argument args outer names (declared_by i.kind) ≡ is_refused
    → more ++ (if is_refused then [] else image_names_after args (done ++ i ∷ []) rest) ≡ all
named_as args all done i rest count outer names found more is_refused far added is =
    let later = if is_refused then [] else image_names_after args (done ++ i ∷ []) rest in
    ap (λ xs. xs ++ later) added
    ∙ (append_assoc found (on_line i.line (images_at outer names i.kind)) later
    ∙ (ap (λ xs. found ++ xs) (after_as args done i rest outer names is_refused far.outer_is far.names_are is) ∙ far.named))

names_step : (args : Values) (all : List ImageName) (done : List Instruction) (i : Instruction) (rest : List Instruction) (count : ℕ)
    (outer next_outer : List Declaration) (names next_names : Names) (found more : List ImageName) → NamesSoFar args all done (i ∷ rest) count outer names found
    → more ≡ found ++ on_line i.line (images_at outer names i.kind)
    → GoesOn (is_refused_argument args outer names (declared_by i.kind)) (outer_by args outer names (declared_by i.kind) (begun i.kind)) next_outer true
    → next_names ≡ names_by names (begun i.kind)
    → NamesSoFar args all (done ++ i ∷ []) rest (count + 1) next_outer next_names more
names_step args all done i rest count outer next_outer names next_names found more far added goes longer = record {
  outer_is = goes.1 ∙ made_as args done outer names i far.outer_is far.names_are;
  names_are = names_as done names next_names i far.names_are longer;
  few = few_as names next_names i count longer far.few;
  named = named_as args all done i rest count outer names found more false far added goes.0;
}

-- over the list that the loop goes through, which has the instruction's kind, its line and the names by other names

named_at : (kind : InstructionKind) (line : ℕ) (i : Instruction) (outer : List Declaration) (names lent : Names) (found more : List ImageName) → kind ≡ i.kind → line ≡ i.line → lent ≡ names
    → more ≡ found ++ on_line line (images_at outer lent kind) → more ≡ found ++ on_line i.line (images_at outer names i.kind)
named_at kind line i outer names lent found more kind_is line_is same added =
    added ∙ (ap (λ ns. found ++ on_line line (images_at outer ns kind)) same
    ∙ (ap (λ n. found ++ on_line n (images_at outer names kind)) line_is ∙ ap (λ k. found ++ on_line i.line (images_at outer names k)) kind_is))

goes_at : (args : Values) (outer next_outer : List Declaration) (names : Names) (kind : InstructionKind) (i : Instruction) (goes wanted : Bool) → kind ≡ i.kind → goes ≡ wanted
    → GoesOn (is_refused_argument args outer names (declared_by kind)) (outer_by args outer names (declared_by kind) (begun kind)) next_outer goes
    → GoesOn (is_refused_argument args outer names (declared_by i.kind)) (outer_by args outer names (declared_by i.kind) (begun i.kind)) next_outer wanted
goes_at args outer next_outer names kind i goes wanted kind_is is on =
    subst (λ k. GoesOn (is_refused_argument args outer names (declared_by k)) (outer_by args outer names (declared_by k) (begun k)) next_outer wanted) kind_is
    (subst (GoesOn (is_refused_argument args outer names (declared_by kind)) (outer_by args outer names (declared_by kind) (begun kind)) next_outer) is on)

pub names_turn : (args : Values) (all : List ImageName) (is : List Instruction) (index : ℕ) (i : Instruction) (kind : InstructionKind) (line : ℕ) (outer next_outer : List Declaration)
    (names lent next_names : Names) (found more : List ImageName) (goes : Bool)
    → index < length is → i ≡ get_or is index i → kind ≡ i.kind → line ≡ i.line → NamesSoFar args all (take index is) (drop index is) index outer names found → lent ≡ names
    → more ≡ found ++ on_line line (images_at outer lent kind)
    → GoesOn (is_refused_argument args outer names (declared_by kind)) (outer_by args outer names (declared_by kind) (begun kind)) next_outer goes → goes ≡ true
    → next_names ≡ names_by names (begun kind)
    → NamesSoFar args all (take (index + 1) is) (drop (index + 1) is) (index + 1) next_outer next_names more
names_turn args all is index i kind line outer next_outer names lent next_names found more goes lt here kind_is line_is far same added on goes_on longer =
    subst (λ (done : List Instruction). NamesSoFar args all done (drop (index + 1) is) (index + 1) next_outer next_names more) (sym (taken is index i lt here))
    (names_step args all (take index is) i (drop (index + 1) is) index outer next_outer names next_names found more
    (subst (λ (rest : List Instruction). NamesSoFar args all (take index is) rest index outer names found) (dropped is index i lt here) far)
    (named_at kind line i outer names lent found more kind_is line_is same added)
    (goes_at args outer next_outer names kind i goes true kind_is goes_on on) (subst (λ k. next_names ≡ names_by names (begun k)) kind_is longer))

pub names_last : (args : Values) (all : List ImageName) (is : List Instruction) (index : ℕ) (i : Instruction) (kind : InstructionKind) (line : ℕ) (outer next_outer : List Declaration)
    (names lent : Names) (found more : List ImageName) (goes : Bool)
    → index < length is → i ≡ get_or is index i → kind ≡ i.kind → line ≡ i.line → NamesSoFar args all (take index is) (drop index is) index outer names found → lent ≡ names
    → more ≡ found ++ on_line line (images_at outer lent kind)
    → GoesOn (is_refused_argument args outer names (declared_by kind)) (outer_by args outer names (declared_by kind) (begun kind)) next_outer goes → goes ≡ false
    → more ≡ all
names_last args all is index i kind line outer next_outer names lent found more goes lt here kind_is line_is far same added on ends =
    let refused = goes_at args outer next_outer names kind i goes false kind_is ends on in
    sym (append-nil more)
    ∙ named_as args all (take index is) i (drop (index + 1) is) index outer names found more true
    (subst (λ (rest : List Instruction). NamesSoFar args all (take index is) rest index outer names found) (dropped is index i lt here) far)
    (named_at kind line i outer names lent found more kind_is line_is same added) refused

pub names_over : (args : Values) (all : List ImageName) (is : List Instruction) (index : ℕ) (outer : List Declaration) (names : Names) (found : List ImageName)
    → length is ≤ index → NamesSoFar args all (take index is) (drop index is) index outer names found → found ≡ all
names_over args all is index outer names found over far =
    let last = subst (λ (rest : List Instruction). NamesSoFar args all (take index is) rest index outer names found) (drop_all index is over) far in
    sym (append-nil found) ∙ last.named
