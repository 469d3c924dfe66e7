use Rattle.std.proofs.Common.{reverse, ◌≡◌, ◌∙◌, ◌⊎◌, [], ℕ, true, true≢false, sym, ap, subst, arith, length, get_or}
use Rattle.trees.specs.Row.{Row}
use Rattle.contexts.specs.PrivatePlaces.{AreWanted, AreFolders, Wanted}
use Rattle.contexts.proofs.Rows.{front-all, front-less, front-at, length-more, get-within}
use Rattle.contexts.proofs.Placing.{wanted-start, wanted-skip, wanted-more, wanted-end}
use Rattle.contexts.proofs.Folders.{folders-start, folders-skip, folders-more}
use Rattle.contexts.proofs.places.part_rows.Goals as goal

pub loop-path-init : goal.loop-path-init
loop-path-init c = record {
  front = front-all c.args.rows.items;
  wanted = wanted-start c.args.rows.items c.args.flags.now c.requires.listing c.in_ok-wanted.wanted.items c.in_ok-wanted.ensures.items (length c.args.rows.items) (omega arith);
  folders = folders-start c.args.rows.items c.args.flags.now c.requires.listing c.new-folders.result.items c.new-folders.ensures.items (length c.args.rows.items) (omega arith);
}

pub is_wanted-requires : goal.is_wanted-requires
is_wanted-requires c =
    let e = c.in-Some.ensures.items in
    let inv = c.loop-path.invariant in
    let rows = c.args.rows.items in
    let flags = c.args.flags.now in
    let k = c.pop.new.self.items in
    let row : Row = (c.in-Some.path, c.in-Some.entry) in
    let here = front-at c.loop-path.left.items k rows row e inv.front in
    let less = front-less c.loop-path.left.items k rows row e inv.front in
    let count = length-more c.loop-path.left.items k row e in
    let at : c.len.result ≡ length k = c.len.ensures ∙ c.pop.new.self.ok.0 in
    let within = get-within rows (length k) row here in
    let same = c.requires.flagged in
    omega arith

pub loop-path-preserved-in-Continue-branch-2 : goal.loop-path-preserved-in-Continue-branch-2
loop-path-preserved-in-Continue-branch-2 c =
    let e = c.in-Some.ensures.items in
    let inv = c.loop-path.invariant in
    let rows = c.args.rows.items in
    let flags = c.args.flags.now in
    let k = c.pop.new.self.items in
    let row : Row = (c.in-Some.path, c.in-Some.entry) in
    let here = front-at c.loop-path.left.items k rows row e inv.front in
    let less = front-less c.loop-path.left.items k rows row e inv.front in
    let count = length-more c.loop-path.left.items k row e in
    let wanted = subst (λ (n : ℕ). AreWanted rows flags n (reverse c.loop-path.wanted.items)) count inv.wanted in
    let folders = subst (λ (n : ℕ). AreFolders rows flags n c.loop-path.folders.items) count inv.folders in
    let at : c.len.result ≡ length k = c.len.ensures ∙ c.pop.new.self.ok.0 in
    let wants : Wanted flags (length k) row = subst (λ (n : ℕ). (c.in-Some.path ≡ []) ⊎ (get_or flags n true ≡ true)) at (c.is_wanted.ensures.0 c.if-is_wanted.true) in
    record {
      front = less;
      wanted = wanted-more rows flags c.requires.listing (length k) row here c.loop-path.wanted.items wanted wants c.owned.result c.owned.ensures c.push.new.self.items c.in_ok-push.ensures.items;
      folders = folders-skip rows flags c.requires.listing (length k) row here c.loop-path.folders.items folders (λ meta off is. off wants);
    }

pub loop-path-preserved-in-Continue-branch-3 : goal.loop-path-preserved-in-Continue-branch-3
loop-path-preserved-in-Continue-branch-3 c =
    let e = c.in-Some.ensures.items in
    let inv = c.loop-path.invariant in
    let rows = c.args.rows.items in
    let flags = c.args.flags.now in
    let k = c.pop.new.self.items in
    let row : Row = (c.in-Some.path, c.in-Some.entry) in
    let here = front-at c.loop-path.left.items k rows row e inv.front in
    let less = front-less c.loop-path.left.items k rows row e inv.front in
    let count = length-more c.loop-path.left.items k row e in
    let wanted = subst (λ (n : ℕ). AreWanted rows flags n (reverse c.loop-path.wanted.items)) count inv.wanted in
    let folders = subst (λ (n : ℕ). AreFolders rows flags n c.loop-path.folders.items) count inv.folders in
    let at : c.len.result ≡ length k = c.len.ensures ∙ c.pop.new.self.ok.0 in
    let off : Wanted flags (length k) row → ⊥ =
    λ w. true≢false (sym (c.is_wanted.ensures.1 (subst (λ (n : ℕ). (c.in-Some.path ≡ []) ⊎ (get_or flags n true ≡ true)) (sym at) w)) ∙ c.if-is_wanted.false) in
    record {
      front = less;
      wanted = wanted-skip rows flags c.requires.listing (length k) row here c.loop-path.wanted.items wanted off;
      folders = folders-more rows flags c.requires.listing (length k) row here c.loop-path.folders.items folders c.in-Directory.meta off c.in-Directory.is c.push-in-Directory.new.self.items c.in_ok-push-2.ensures.items;
    }

pub loop-path-preserved : goal.loop-path-preserved
loop-path-preserved c =
    let e = c.in-Some.ensures.items in
    let inv = c.loop-path.invariant in
    let rows = c.args.rows.items in
    let flags = c.args.flags.now in
    let k = c.pop.new.self.items in
    let row : Row = (c.in-Some.path, c.in-Some.entry) in
    let here = front-at c.loop-path.left.items k rows row e inv.front in
    let less = front-less c.loop-path.left.items k rows row e inv.front in
    let count = length-more c.loop-path.left.items k row e in
    let wanted = subst (λ (n : ℕ). AreWanted rows flags n (reverse c.loop-path.wanted.items)) count inv.wanted in
    let folders = subst (λ (n : ℕ). AreFolders rows flags n c.loop-path.folders.items) count inv.folders in
    let at : c.len.result ≡ length k = c.len.ensures ∙ c.pop.new.self.ok.0 in
    let off : Wanted flags (length k) row → ⊥ =
    λ w. true≢false (sym (c.is_wanted.ensures.1 (subst (λ (n : ℕ). (c.in-Some.path ≡ []) ⊎ (get_or flags n true ≡ true)) (sym at) w)) ∙ c.if-is_wanted.false) in
    record {
      front = less;
      wanted = wanted-skip rows flags c.requires.listing (length k) row here c.loop-path.wanted.items wanted off;
      folders = folders-skip rows flags c.requires.listing (length k) row here c.loop-path.folders.items folders (λ meta unwanted is. c.in_default-entry.not-Directory meta is);
    }

pub returns-clause-wanted : goal.returns-clause-wanted
returns-clause-wanted c =
    let none : length c.loop-path.left.items ≡ 0 = sym c.loop-path.left.ok.0 ∙ c.in_default.ensures.cases.0 in
    wanted-end c.args.rows.items c.args.flags.now (length c.loop-path.left.items) c.loop-path.wanted.items c.reverse.new.self.items none c.reverse.ensures.items c.loop-path.invariant.wanted
