-- What caches are given back: what the run of a vertex left in them, of the trees that they held when it was claimed.
use Rattle.std.specs.Prelude.{◌≡◌, ◌↔◌, ℕ, ◌==◌, if◌then◌else◌, List, [], ◌∷◌, ◌++◌, map, Option, Some, None, slice_get}
use Rattle.trees.specs.TreeMap.{TreeMap}
use Rattle.runs.specs.declared.run.RunRequest.{RunRequest}
use Rattle.runs.specs.declared.run.CacheUse.{CacheUse}
use Rattle.llb.specs.declared.vertex.Vertex.{Vertex}
use Rattle.plans.specs.Plan.{Problem, uses_at, IsLeftBy}
use Rattle.plans.specs.Value.{trees_at}
use Rattle.cachemounts.specs.declared.content.Content.{Content}
use Rattle.cachemounts.specs.declared.holds.Hold.{Hold}
use Rattle.cachemounts.specs.Holds.{new_holds, of_holder}
use Rattle.cachemounts.specs.Content.{tree_in, slot_of}
use Rattle.cachemounts.specs.Changes.{content_then, content_after}
use Rattle.board.specs.Problem.{values_in}
use Rattle.board.specs.Legal.{change_of, held_caches, vertex_out, IsReady, IsLegal}
use Rattle.board.specs.Claim.{ClaimValue}
use Rattle.board.specs.Board.{AreContents}
use Rattle.board.specs.declared.event.Happened.{Happened}
use Rattle.board.specs.declared.event.Happened.TheVariants.{Claimed, Settled, Abandoned}

-- what an executor may leave in the caches of a run, by what they held before (own)
abbrev pub Leaving : Type 1
Leaving = RunRequest → List TreeMap → List TreeMap → Type 0

-- two executors may leave the same (own)
abbrev pub LeaveTheSame : Leaving → Leaving → Type 0
LeaveTheSame leaves other = (request : RunRequest) (before after : List TreeMap) → leaves request before after ↔ other request before after

-- the trees that a worker is lent which claims a vertex after a history: what the contents hold then that it takes, in the order of the vertex's
-- uses (own)
abbrev pub lent_after : Problem → List Content → List Happened → ℕ → ℕ → List TreeMap
lent_after problem first before worker vertex =
    map (λ (hold : Hold). content_after (tree_in first) (map (change_of problem) before) hold.id (slot_of hold.access)) (new_holds worker (held_caches problem before) (uses_at problem vertex))

-- the trees that a worker was lent with its last claim, after one event more (own)
abbrev pub lent_then : Problem → List Content → List Happened → ℕ → List TreeMap → Happened → List TreeMap
lent_then problem first before worker lent (Claimed by vertex) = if by == worker then lent_after problem first before by vertex else lent
lent_then problem first before worker lent (Settled by vertex given) = lent
lent_then problem first before worker lent (Abandoned by vertex) = lent

-- the same after events that follow upon a history (own)
abbrev pub lent_on : Problem → List Content → ℕ → List TreeMap → List Happened → List Happened → List TreeMap
lent_on problem first worker lent before [] = lent
lent_on problem first worker lent before (event ∷ events) =
    lent_on problem first worker (lent_then problem first before worker lent event) (before ++ event ∷ []) events

-- the trees that a worker was lent with its last claim; none, where it has made no claim (own)
abbrev pub lent_to : Problem → List Content → List Happened → ℕ → List TreeMap
lent_to problem first history worker = lent_on problem first worker [] [] history

-- a claim has the trees that its worker was lent with it (own)
abbrev pub IsLent : Problem → List Content → List Happened → ClaimValue → Type 0
IsLent problem first history claim = claim.caches ≡ lent_to problem first history claim.worker

-- trees are what the run of a claim may leave of those that the claim has, in the caches that its vertex uses (own)
abbrev pub IsLeftFor : Leaving → Problem → ClaimValue → List TreeMap → Type 0
IsLeftFor leaves problem claim given =
    (vertex : Vertex) → slice_get problem.vertices claim.vertex ≡ Some vertex → IsLeftBy leaves vertex.op claim.inputs claim.caches given

-- trees are what a vertex of a problem may leave in the caches that it uses, by what they held before: its operation on the values of its inputs (own)
pub record IsLeftAt (leaves : Leaving) (problem : Problem) (vertex : ℕ) (before after : List TreeMap) : Type 0 where
  pub operation : Vertex
  pub there : slice_get problem.vertices vertex ≡ Some operation
  pub inputs : List TreeMap
  pub values : trees_at (values_in problem) operation.inputs ≡ Some inputs
  pub left : IsLeftBy leaves operation.op inputs before after

-- what happens after a history gives back what was left: a settle what its vertex left of the trees that its worker was lent (own)
abbrev pub GivesBack : Leaving → Problem → List Content → List Happened → Happened → Type 0
GivesBack leaves problem first before (Claimed worker vertex) = Unit {0}
GivesBack leaves problem first before (Settled worker vertex given) = IsLeftAt leaves problem vertex (lent_to problem first before worker) given
GivesBack leaves problem first before (Abandoned worker vertex) = Unit {0}

-- each event of a list does, after those before it, and after the history that the list goes on (own)
abbrev pub GiveBackOn : Leaving → Problem → List Content → List Happened → List Happened → Type 0
GiveBackOn leaves problem first before [] = Unit {0}
GiveBackOn leaves problem first before (event ∷ events) =
    GivesBack leaves problem first before event × GiveBackOn leaves problem first (before ++ event ∷ []) events

-- a history gives back what was left: each settle of it what the run of its vertex left in its caches, of what stood in them when it was claimed (own)
abbrev pub GivesBackWhatIsLeft : Leaving → Problem → List Content → List Happened → Type 0
GivesBackWhatIsLeft leaves problem first history = GiveBackOn leaves problem first [] history

-- these contents are those that some legal history of a problem leaves of the contents at the start, whose settles give back what runs left: so each
-- content is as it was, or what the last settle that gave it back brought, which its vertex's run left of what it was lent (own)
unfoldable pub AreLeftByRuns : Leaving → Problem → List Content → List Content → Type 0
AreLeftByRuns leaves problem first contents =
    (history : List Happened) × IsLegal problem history × AreContents problem history first contents × GivesBackWhatIsLeft leaves problem first history

-- these contents are those that one history leaves of the contents at the start, which is over: it is legal, its settles give back what runs left,
-- no claim is out after it, and no vertex is ready (own)
pub record AreLeftAtEnd (leaves : Leaving) (problem : Problem) (first contents : List Content) : Type 0 where
  pub history : List Happened
  pub legal : IsLegal problem history
  pub left : AreContents problem history first contents
  pub given : GivesBackWhatIsLeft leaves problem first history
  pub idle : (worker : ℕ) → vertex_out history worker ≡ None
  pub none_ready : (vertex : ℕ) → ¬ IsReady problem history vertex

-- what happens after a history brings a content no tree: whatever stands in it stays (own)
abbrev pub BringsNone : Problem → List ℕ → Option ℕ → List Happened → Happened → Type 0
BringsNone problem id slot before event =
    (tree : TreeMap) → content_then (held_caches problem before) (change_of problem event) id slot tree ≡ tree

-- no event of a list brings a content a tree, after those before it, and after the history that the list goes on (own)
abbrev pub BringNoneOn : Problem → List ℕ → Option ℕ → List Happened → List Happened → Type 0
BringNoneOn problem id slot before [] = Unit {0}
BringNoneOn problem id slot before (event ∷ events) =
    BringsNone problem id slot before event × BringNoneOn problem id slot (before ++ event ∷ []) events

-- a tree is what the last settle of a history that gave a content back brought it: its vertex's run left this tree of what its worker was lent, at the
-- place of a use of the content's cache, and what that use held then is this content (own)
pub record IsLeftIn (leaves : Leaving) (problem : Problem) (first : List Content) (history : List Happened) (id : List ℕ) (slot : Option ℕ) (tree : TreeMap) : Type 0 where
  pub before : List Happened
  pub worker : ℕ
  pub vertex : ℕ
  pub given : List TreeMap
  pub after : List Happened
  pub whole : history ≡ before ++ Settled worker vertex given ∷ after
  pub left : IsLeftAt leaves problem vertex (lent_to problem first before worker) given
  pub at : ℕ
  pub mount : CacheUse
  pub uses : slice_get (uses_at problem vertex) at ≡ Some mount
  pub same : mount.id ≡ id
  pub hold : Hold
  pub held : slice_get (of_holder worker (held_caches problem before)) at ≡ Some hold
  pub held_id : hold.id ≡ id
  pub held_slot : slot_of hold.access ≡ slot
  pub there : slice_get given at ≡ Some tree
  pub last : BringNoneOn problem id slot (before ++ Settled worker vertex given ∷ []) after
