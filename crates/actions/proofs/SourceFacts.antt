-- The sources of a COPY, those that can be given and what is against the others.
use Rattle.std.specs.Prelude.{◌≡◌, ◌++◌, ◌||◌, Bool, true, false, not, ℕ, List, [], ◌∷◌, map, Option, Some, None, option_map, refl, if◌then◌else◌}
use Rattle.std.specs.List.{list_any, filter_map, cons_option}
use Rattle.std.proofs.Common.{sym, ap, ap₂, ◌∙◌, append_assoc, append-nil}
use Rattle.std.proofs.lemmas.Bool.{true≢false}
use Rattle.std.proofs.lemmas.Option.{none-some}
use Rattle.paths.specs.Name.{is_component}
use Rattle.llb.specs.declared.op.FileSource.{FileSource}
use Rattle.llb.specs.declared.op.FileSource.TheVariants.{Pattern, Data}
use Rattle.expand.specs.Expanding.{unexpanded, valued_by, valued, is_valued, worse, worst}
use Rattle.expand.specs.declared.fault.Unexpanded.{Unexpanded}
use Rattle.expand.specs.declared.fault.Unexpanded.TheVariants.{TooLong}
use Rattle.expand.proofs.WorseLaws.{worse-none, worse-assoc, worse_none-left, worse_none-right, valued-is}
use Rattle.instructions.specs.Reason.{is_long}
use Rattle.instructions.specs.declared.instruction.Body.{Body}
use Rattle.instructions.specs.declared.instruction.Source.{Source}
use Rattle.instructions.specs.declared.instruction.Source.TheVariants.{Files, Document}
use Rattle.scopes.specs.Evaluate.{Values}
use Rattle.actions.specs.Copy.{body_text, file_sources, pattern_fault, body_fault, document_fault, is_pattern_and, has_far_name}
use Rattle.actions.specs.PrivateTexts.{body_valued, named, name_fault, heredoc_fault, file_of, near, is_pattern_that, IsNearer}
use Rattle.actions.specs.declared.sources.NearSources.{NearSources}
use Rattle.actions.proofs.LimitFacts.{long_worse}

-- the loop along the sources

-- what is found so far, where these are left
pub record IsGathered (before : Values) (all rest : List Source) (found : NearSources) : Type 0 where
  pub files : found.files ++ filter_map (near before) rest ≡ filter_map (near before) all
  pub patterns : worse found.patterns (worst (map (pattern_fault before) rest)) ≡ worst (map (pattern_fault before) all)
  pub documents : worse found.documents (worst (map (heredoc_fault before) rest)) ≡ worst (map (heredoc_fault before) all)

pub gathered-begun : (before : Values) (all : List Source) (found : NearSources) → found.files ≡ [] → found.patterns ≡ None → found.documents ≡ None → IsGathered before all all found
gathered-begun before all found f p d = record {
  files = ap (λ (files : List FileSource). files ++ filter_map (near before) all) f;
  patterns = ap (λ fault. worse fault (worst (map (pattern_fault before) all))) p;
  documents = ap (λ fault. worse fault (worst (map (heredoc_fault before) all))) d;
}

one_first : (o : Option FileSource) (files : List FileSource) → cons_option o [] ++ files ≡ cons_option o files
one_first None files = refl
one_first (Some file) files = refl

pub gathered-more : (before : Values) (all rest more : List Source) (source : Source) (found new : NearSources) → rest ≡ source ∷ more → IsGathered before all rest found → IsNearer before found source new
    → IsGathered before all more new
gathered-more before all rest more source found new e g h = record {
  files = ap (λ (files : List FileSource). files ++ filter_map (near before) more) h.files
      ∙ append_assoc found.files (cons_option (near before source) []) (filter_map (near before) more)
      ∙ ap (λ (files : List FileSource). found.files ++ files) (one_first (near before source) (filter_map (near before) more))
      ∙ ap (λ (sources : List Source). found.files ++ filter_map (near before) sources) (sym e) ∙ g.files;
  patterns = ap (λ fault. worse fault (worst (map (pattern_fault before) more))) h.patterns
      ∙ worse-assoc found.patterns (pattern_fault before source) (worst (map (pattern_fault before) more))
      ∙ ap (λ (sources : List Source). worse found.patterns (worst (map (pattern_fault before) sources))) (sym e) ∙ g.patterns;
  documents = ap (λ fault. worse fault (worst (map (heredoc_fault before) more))) h.documents
      ∙ worse-assoc found.documents (heredoc_fault before source) (worst (map (heredoc_fault before) more))
      ∙ ap (λ (sources : List Source). worse found.documents (worst (map (heredoc_fault before) sources))) (sym e) ∙ g.documents;
}

-- what is found in the end
pub record AreNear (before : Values) (sources : List Source) (found : NearSources) : Type 0 where
  pub files : found.files ≡ filter_map (near before) sources
  pub patterns : found.patterns ≡ worst (map (pattern_fault before) sources)
  pub documents : found.documents ≡ worst (map (heredoc_fault before) sources)

pub gathered-ended : (before : Values) (all rest : List Source) (found : NearSources) → rest ≡ [] → IsGathered before all rest found → AreNear before all found
gathered-ended before all rest found e g = record {
  files = sym (append-nil found.files) ∙ ap (λ (sources : List Source). found.files ++ filter_map (near before) sources) (sym e) ∙ g.files;
  patterns = sym (worse-none found.patterns) ∙ ap (λ (sources : List Source). worse found.patterns (worst (map (pattern_fault before) sources))) (sym e) ∙ g.patterns;
  documents = sym (worse-none found.documents) ∙ ap (λ (sources : List Source). worse found.documents (worst (map (heredoc_fault before) sources))) (sym e) ∙ g.documents;
}

-- tests of what is found

pattern_tested : (test : List ℕ → Bool) (text : Option (List ℕ)) (files : List FileSource) (b : Bool) → list_any (is_pattern_that test) files ≡ b
    → list_any (is_pattern_that test) (cons_option (option_map (λ t. Pattern t) text) files) ≡ (is_valued test text || b)
pattern_tested test None files b h = h
pattern_tested test (Some text) files b h = ap (λ c. test text || c) h

heredoc_passed : (test : List ℕ → Bool) (name text : Option (List ℕ)) (files : List FileSource) (b : Bool) → list_any (is_pattern_that test) files ≡ b
    → list_any (is_pattern_that test) (cons_option (file_of name text) files) ≡ b
heredoc_passed test None text files b h = h
heredoc_passed test (Some name) None files b h = h
heredoc_passed test (Some name) (Some text) files b h = h

-- a test of the patterns that are found is one of all patterns that have a value
pub patterns_tested : (test : List ℕ → Bool) (before : Values) (sources : List Source) → list_any (is_pattern_that test) (filter_map (near before) sources) ≡ list_any (is_pattern_and test before) sources
patterns_tested test before [] = refl
patterns_tested test before (Files word ∷ sources) = pattern_tested test (valued before word) (filter_map (near before) sources) _ (patterns_tested test before sources)
patterns_tested test before (Document name body ∷ sources) = heredoc_passed test (named name) (body_valued before body) (filter_map (near before) sources) _ (patterns_tested test before sources)

-- heredocs with a name that is too long

or_true : (b : Bool) → (b || true) ≡ true
or_true true = refl
or_true false = refl

or_assoc : (a b c : Bool) → ((a || b) || c) ≡ (a || (b || c))
or_assoc true b c = refl
or_assoc false b c = refl

heredoc_long : (name : List ℕ) (component : Bool) (body heredocs documents : Option Unexpanded) (far : Bool) → is_long heredocs ≡ (is_long documents || far)
    → is_long (worse (worse (name_fault (if component then Some name else None)) body) heredocs) ≡ (is_long (worse body documents) || (not component || far))
heredoc_long name true body heredocs documents far h =
    long_worse body heredocs ∙ ap (λ b. is_long body || b) h ∙ sym (or_assoc (is_long body) (is_long documents) far) ∙ ap (λ b. b || far) (sym (long_worse body documents))
heredoc_long name false body heredocs documents far h = sym (or_true (is_long (worse body documents)))

-- a heredoc is too long if its body is, or its name
pub heredocs_long : (before : Values) (sources : List Source)
    → is_long (worst (map (heredoc_fault before) sources)) ≡ (is_long (worst (map (document_fault before) sources)) || list_any has_far_name sources)
heredocs_long before [] = refl
heredocs_long before (Files word ∷ sources) = heredocs_long before sources
heredocs_long before (Document name body ∷ sources) =
    heredoc_long name (is_component name) (body_fault before body) (worst (map (heredoc_fault before) sources)) (worst (map (document_fault before) sources)) (list_any has_far_name sources) (heredocs_long before sources)

heredoc_same : (name : List ℕ) (component : Bool) (body heredocs documents : Option Unexpanded) (far : Bool) → (not component || far) ≡ false → (far ≡ false → heredocs ≡ documents)
    → worse (worse (name_fault (if component then Some name else None)) body) heredocs ≡ worse body documents
heredoc_same name true body heredocs documents far e h = ap (worse body) (h e)
heredoc_same name false body heredocs documents far e h = absurd (true≢false e)

-- if no name is, what is against the heredocs is what is against their bodies
pub heredocs_same : (before : Values) (sources : List Source) → list_any has_far_name sources ≡ false → worst (map (heredoc_fault before) sources) ≡ worst (map (document_fault before) sources)
heredocs_same before [] e = refl
heredocs_same before (Files word ∷ sources) e = heredocs_same before sources e
heredocs_same before (Document name body ∷ sources) e =
    heredoc_same name (is_component name) (body_fault before body) (worst (map (heredoc_fault before) sources)) (worst (map (document_fault before) sources)) (list_any has_far_name sources) e (heredocs_same before sources)

-- sources that nothing is against

body_there : (before : Values) (body : Body) → body_fault before body ≡ None → body_valued before body ≡ Some (body_text before body)
body_there before body e = ap (λ fault. valued_by fault (body_text before body)) e

document_there : (component : Bool) (name : List ℕ) (text : List ℕ) (body : Option Unexpanded) → worse (name_fault (if component then Some name else None)) body ≡ None
    → file_of (if component then Some name else None) (valued_by body text) ≡ Some (Data name text)
document_there true name text body e = ap (λ fault. file_of (Some name) (valued_by fault text)) e
document_there false name text body e = absurd (none-some TooLong (sym e))

-- each is found
pub all_near : (before : Values) (sources : List Source) → worst (map (pattern_fault before) sources) ≡ None → worst (map (heredoc_fault before) sources) ≡ None
    → filter_map (near before) sources ≡ file_sources before sources
all_near before [] p h = refl
all_near before (Files word ∷ sources) p h =
    let here : unexpanded before word ≡ None = worse_none-left (unexpanded before word) (worst (map (pattern_fault before) sources)) p in
    let there : worst (map (pattern_fault before) sources) ≡ None = worse_none-right (unexpanded before word) (worst (map (pattern_fault before) sources)) p in
    ap₂ (λ (text : Option (List ℕ)) (files : List FileSource). cons_option (option_map (λ t. Pattern t) text) files) (valued-is before word here) (all_near before sources there h)
all_near before (Document name body ∷ sources) p h =
    let one : Option Unexpanded = worse (name_fault (named name)) (body_fault before body) in
    let here : worse (name_fault (named name)) (body_fault before body) ≡ None = worse_none-left one (worst (map (heredoc_fault before) sources)) h in
    let there : worst (map (heredoc_fault before) sources) ≡ None = worse_none-right one (worst (map (heredoc_fault before) sources)) h in
    ap₂ (λ (file : Option FileSource) (files : List FileSource). cons_option file files) (document_there (is_component name) name (body_text before body) (body_fault before body) here) (all_near before sources p there)
