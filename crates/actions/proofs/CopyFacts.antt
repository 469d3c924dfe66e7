-- What is reported of a COPY, by what is found of its texts.
use Rattle.std.specs.Prelude.{◌≡◌, ◌||◌, ℕ, Bool, true, false, not, List, map, Option, Some, None, option_map, length, refl, if◌then◌else◌}
use Rattle.std.specs.List.{list_any, filter_map}
use Rattle.std.proofs.Common.{sym, ap, ap₂, ◌∙◌}
use Rattle.std.proofs.lemmas.Option.{same_Some, none-some}
use Rattle.plain.specs.declared.refusal.Code.{Code}
use Rattle.plain.specs.declared.refusal.Code.TheVariants.{R06, R14, R15, R18}
use Rattle.expand.specs.Value.{Parts, value}
use Rattle.expand.specs.Expanding.{unexpanded, valued, is_valued, is_empty, worse, worst}
use Rattle.expand.specs.declared.fault.Unexpanded.{Unexpanded}
use Rattle.expand.specs.declared.fault.Unexpanded.TheVariants.{TooLong}
use Rattle.expand.proofs.WorseLaws.{worse-none, worse-assoc, worse_none-left, worse_none-right, valued-is}
use Rattle.globs.specs.Glob.{is_malformed}
use Rattle.instructions.specs.Least.{least}
use Rattle.instructions.specs.Reason.{is_long, reason}
use Rattle.instructions.specs.declared.instruction.Source.{Source}
use Rattle.llb.specs.declared.op.CopyFiles.{CopyFiles}
use Rattle.llb.specs.declared.op.FileSource.{FileSource}
use Rattle.options.specs.declared.copy.CopyFlags.{CopyFlags}
use Rattle.paths.specs.Reading.{read_from}
use Rattle.scopes.specs.Scope.{value_in}
use Rattle.scopes.specs.declared.declaration.Declaration.{Declaration}
use Rattle.actions.specs.Texts.{is_within}
use Rattle.actions.specs.Copy.{goes_into, file_sources, pattern_fault, document_fault, copy_fault, has_far_name, leads_far, copy_due, copied}
use Rattle.actions.specs.PrivateTexts.{near, heredoc_fault, first_code, text_code, destination_of, far_fault}
use Rattle.actions.proofs.LimitFacts.{neither, long_worse, or_long, reported, reason_is}
use Rattle.actions.proofs.SourceFacts.{patterns_tested, heredocs_long, heredocs_same, all_near}

-- what is found against a COPY: its patterns, its destination, its heredocs, and the path of its destination
abbrev pub found_fault : List Declaration → List (List ℕ) → List Source → Parts → Option Unexpanded
found_fault scope dir sources destination =
    worse (worse (worse (worst (map (pattern_fault (value_in scope)) sources)) (unexpanded (value_in scope) destination)) (worst (map (heredoc_fault (value_in scope)) sources)))
    (far_fault dir (valued (value_in scope) destination))

-- the code that is found, apart from limits
abbrev pub found_code : List Declaration → List Source → Parts → Option Code
found_code scope sources destination = text_code (filter_map (near (value_in scope)) sources) (length sources) (valued (value_in scope) destination)

ors : (p d b n x : Bool) → (((p || d) || (b || n)) || x) ≡ ((p || (d || b)) || (n || x))
ors true d b n x = refl
ors false true b n x = refl
ors false false true n x = refl
ors false false false n x = refl

long_parts : (p d h b x : Option Unexpanded) (far path : Bool) → is_long h ≡ (is_long b || far) → is_long x ≡ path → is_long (worse (worse (worse p d) h) x) ≡ (is_long (worse p (worse d b)) || (far || path))
long_parts p d h b x far path e f =
    long_worse (worse (worse p d) h) x
    ∙ ap₂ (λ (u v : Bool). u || v) (long_worse (worse p d) h ∙ ap₂ (λ (u v : Bool). u || v) (long_worse p d) e) f
    ∙ ors (is_long p) (is_long d) (is_long b) far path
    ∙ ap (λ u. u || (far || path)) (sym (long_worse p (worse d b) ∙ ap (λ u. is_long p || u) (long_worse d b)))

far_long : (b : Bool) → is_long (if b then Some TooLong else None) ≡ b
far_long true = refl
far_long false = refl

-- R18 is due just where something that is found is too long
found_long : (scope : List Declaration) (dir : List (List ℕ)) (sources : List Source) (destination : Parts) → is_long (found_fault scope dir sources destination) ≡ copy_due scope dir sources destination R18
found_long scope dir sources destination =
    long_parts (worst (map (pattern_fault (value_in scope)) sources)) (unexpanded (value_in scope) destination) (worst (map (heredoc_fault (value_in scope)) sources))
    (worst (map (document_fault (value_in scope)) sources)) (far_fault dir (valued (value_in scope) destination))
    (list_any has_far_name sources) (is_valued (leads_far dir) (valued (value_in scope) destination))
    (heredocs_long (value_in scope) sources) (far_long (is_valued (leads_far dir) (valued (value_in scope) destination)))

same_parts : (p d h b : Option Unexpanded) (path : Bool) → h ≡ b → path ≡ false → worse (worse (worse p d) h) (if path then Some TooLong else None) ≡ worse p (worse d b)
same_parts p d h b path e f =
    ap₂ (λ (u : Option Unexpanded) (v : Bool). worse (worse (worse p d) u) (if v then Some TooLong else None)) e f
    ∙ worse-none (worse (worse p d) b) ∙ worse-assoc p d b

-- and else it is what is against the texts
found_same : (scope : List Declaration) (dir : List (List ℕ)) (sources : List Source) (destination : Parts) → is_long (found_fault scope dir sources destination) ≡ false
    → found_fault scope dir sources destination ≡ copy_fault scope sources destination
found_same scope dir sources destination e =
    let parts = neither (is_long (copy_fault scope sources destination)) (list_any has_far_name sources || is_valued (leads_far dir) (valued (value_in scope) destination)) (sym (found_long scope dir sources destination) ∙ e) in
    let limits = neither (list_any has_far_name sources) (is_valued (leads_far dir) (valued (value_in scope) destination)) parts.1 in
    same_parts (worst (map (pattern_fault (value_in scope)) sources)) (unexpanded (value_in scope) destination) (worst (map (heredoc_fault (value_in scope)) sources))
    (worst (map (document_fault (value_in scope)) sources)) (is_valued (leads_far dir) (valued (value_in scope) destination))
    (heredocs_same (value_in scope) sources limits.0) limits.1

codes_are : (a b c d : Bool) → (if a then Some R06 else if b then Some R14 else if c then Some R15 else if d then Some R18 else None) ≡ or_long (first_code a b c) d
codes_are true b c d = refl
codes_are false true c d = refl
codes_are false false true d = refl
codes_are false false false d = refl

least_is : (scope : List Declaration) (dir : List (List ℕ)) (sources : List Source) (destination : Parts)
    → least (copy_due scope dir sources destination) ≡ or_long (found_code scope sources destination) (is_long (found_fault scope dir sources destination))
least_is scope dir sources destination =
    codes_are (copy_due scope dir sources destination R06) (copy_due scope dir sources destination R14) (copy_due scope dir sources destination R15) (copy_due scope dir sources destination R18)
    ∙ ap₂ (λ (u v : Bool). or_long (first_code (u || is_valued is_empty (valued (value_in scope) destination)) (copy_due scope dir sources destination R14) v) (copy_due scope dir sources destination R18))
    (sym (patterns_tested is_empty (value_in scope) sources)) (sym (patterns_tested is_malformed (value_in scope) sources))
    ∙ ap (or_long (found_code scope sources destination)) (sym (found_long scope dir sources destination))

-- why a COPY is refused: the code that is found, or what is found against it
pub copy_reason : (scope : List Declaration) (dir : List (List ℕ)) (sources : List Source) (destination : Parts)
    → reason (copy_due scope dir sources destination) (copy_fault scope sources destination) ≡ reported (found_code scope sources destination) (found_fault scope dir sources destination)
copy_reason scope dir sources destination =
    reason_is (copy_due scope dir sources destination) (copy_fault scope sources destination) (found_code scope sources destination) (found_fault scope dir sources destination)
    (least_is scope dir sources destination) (found_same scope dir sources destination)

-- the code and the fault that are found, step by step

pub code_is : (scope : List Declaration) (sources : List Source) (destination : Parts) {files : List FileSource} {count : ℕ} {text : Option (List ℕ)} {code : Option Code}
    → files ≡ filter_map (near (value_in scope)) sources → count ≡ length sources → text ≡ valued (value_in scope) destination → code ≡ text_code files count text → code ≡ found_code scope sources destination
code_is scope sources destination {files} {count} {text} f n t e =
    e ∙ ap₂ (λ (x : List FileSource) (y : ℕ). text_code x y text) f n ∙ ap (text_code (filter_map (near (value_in scope)) sources) (length sources)) t

pub fault_is : (scope : List Declaration) (dir : List (List ℕ)) (sources : List Source) (destination : Parts) {patterns line documents all fault : Option Unexpanded} {text : Option (List ℕ)}
    → patterns ≡ worst (map (pattern_fault (value_in scope)) sources) → documents ≡ worst (map (heredoc_fault (value_in scope)) sources) → text ≡ valued (value_in scope) destination
    → line ≡ worse patterns (unexpanded (value_in scope) destination) → all ≡ worse line documents → fault ≡ worse all (far_fault dir text) → fault ≡ found_fault scope dir sources destination
fault_is scope dir sources destination {patterns} {line} {documents} {all} {fault} {text} p h t l a f =
    f ∙ ap₂ (λ (x : Option Unexpanded) (y : Option (List ℕ)). worse x (far_fault dir y))
    (a ∙ ap₂ worse (l ∙ ap (λ x. worse x (unexpanded (value_in scope) destination)) p) h) t

-- if nothing is found against it, all is given

path_there : (within_it : Bool) (path : List (List ℕ)) (goes : Bool) → (if not within_it then Some TooLong else None) ≡ None
    → option_map {U = List (List ℕ) × Bool} (λ p. (p, goes)) (if within_it then Some path else None) ≡ Some (path, goes)
path_there true path goes e = refl
path_there false path goes e = absurd (none-some TooLong (sym e))

reached_by : (dir : List (List ℕ)) (text : List ℕ) (word : Option (List ℕ)) → word ≡ Some text → far_fault dir word ≡ None → destination_of dir word ≡ Some (read_from text dir, goes_into text)
reached_by dir text word e f =
    ap (destination_of dir) e ∙ path_there (is_within (read_from text dir)) (read_from text dir) (goes_into text) (ap (far_fault dir) (sym e) ∙ f)

pub record AreGiven (scope : List Declaration) (dir : List (List ℕ)) (sources : List Source) (destination : Parts) : Type 0 where
  pub files : filter_map (near (value_in scope)) sources ≡ file_sources (value_in scope) sources
  pub reached : destination_of dir (valued (value_in scope) destination) ≡ Some (read_from (value (value_in scope) destination) dir, goes_into (value (value_in scope) destination))

pub all_given : (scope : List Declaration) (dir : List (List ℕ)) (sources : List Source) (destination : Parts) → found_fault scope dir sources destination ≡ None → AreGiven scope dir sources destination
all_given scope dir sources destination e =
    let p : Option Unexpanded = worst (map (pattern_fault (value_in scope)) sources) in
    let d : Option Unexpanded = unexpanded (value_in scope) destination in
    let h : Option Unexpanded = worst (map (heredoc_fault (value_in scope)) sources) in
    let x : Option Unexpanded = far_fault dir (valued (value_in scope) destination) in
    let texts = worse_none-left (worse (worse p d) h) x e in
    let line = worse_none-left (worse p d) h texts in
    record {
      files = all_near (value_in scope) sources (worse_none-left p d line) (worse_none-right (worse p d) h texts);
      reached = reached_by dir (value (value_in scope) destination) (valued (value_in scope) destination) (valued-is (value_in scope) destination (worse_none-right p d line)) (worse_none-right (worse (worse p d) h) x e);
    }

abbrev files_of : List FileSource → List (List ℕ) × Bool → CopyFlags → CopyFiles
files_of found reached flags = record { sources = found; dest = reached.0; options = record { into = reached.1; owner = flags.owner; mode = flags.mode } }

-- the copy that is made
pub files_are : (scope : List Declaration) (dir : List (List ℕ)) (sources : List Source) (destination : Parts) (flags : CopyFlags) (found : List FileSource) (reached : List (List ℕ) × Bool) {path : Option (List (List ℕ) × Bool)} {text : Option (List ℕ)}
    → AreGiven scope dir sources destination → found ≡ filter_map (near (value_in scope)) sources → text ≡ valued (value_in scope) destination → path ≡ destination_of dir text → path ≡ Some reached
    → Some (copied dir (file_sources (value_in scope) sources) (value (value_in scope) destination) flags) ≡ Some (files_of found reached flags)
files_are scope dir sources destination flags found reached {path} {text} given f t d e =
    ap₂ (λ (x : List FileSource) (y : List (List ℕ) × Bool). Some (files_of x y flags)) (sym (f ∙ given.files))
    (same_Some (read_from (value (value_in scope) destination) dir, goes_into (value (value_in scope) destination)) reached (sym given.reached ∙ ap (destination_of dir) (sym t) ∙ sym d ∙ e))
