-- The context of rows that suffice.
use Rattle.std.proofs.Common.{◌≡◌, ℕ, true, List, [], sym, subst, inl, inr}
use Rattle.std.specs.Prelude.{◌⊎◌}
use Rattle.paths.specs.Fronts.{is_front}
use Rattle.trees.specs.declared.entry.Entry.{Entry}
use Rattle.trees.specs.Row.{Row, Has}
use Rattle.trees.specs.TreeMap.{TreeMap}
use Rattle.ignorefile.specs.declared.line.Line.{Line}
use Rattle.contexts.specs.Context.{IsContext, IsFolder, Stays}
use Rattle.packing.specs.Leaving.{Suffices}

-- a folder of the rows that suffice is one of all rows, if all rows of its path are among them
folder_of : (lines : List Line) (rows some : List Row) (path : List (List ℕ)) (entry : Entry) → Suffices lines rows some
    → ((row : Row) → Has rows row → row.0 ≡ path → Has some row) → IsFolder some path entry → IsFolder rows path entry
folder_of lines rows some path entry enough there (inl found) = inl (found.0, (enough.of found.0 found.1.0, found.1.1))
folder_of lines rows some path entry enough there (inr none) = inr ((λ row has at. none.0 row (there row has at) at), none.1)

only_of : (lines : List Line) (rows some : List Row) (path : List (List ℕ)) → Suffices lines rows some
    → (path ≡ []) ⊎ ((row : Row) × (Has some row × (Stays lines row × ((row.0 ≡ path) ⊎ (is_front path row.0 ≡ true)))))
    → (path ≡ []) ⊎ ((row : Row) × (Has rows row × (Stays lines row × ((row.0 ≡ path) ⊎ (is_front path row.0 ≡ true)))))
only_of lines rows some path enough (inl root) = inl root
only_of lines rows some path enough (inr found) = inr (found.0, (enough.of found.0 found.1.0, found.1.1))

-- what is the context of some rows that suffice is that of all
pub whole_context : (lines : List Line) (rows some : List Row) (tree : TreeMap) → Suffices lines rows some → IsContext some lines tree → IsContext rows lines tree
whole_context lines rows some tree enough is = record {
  stays = λ row has stays. is.stays row (enough.stays row has stays) stays;
  ways = λ row front has stays below.
      let found = is.ways row front (enough.stays row has stays) stays below in (
        found.0,
        (
          found.1.0,
          folder_of lines rows some front found.0 enough (λ other has_other at. enough.ways other row has_other has stays (subst (λ p. is_front p row.0 ≡ true) (sym at) below)) found.1.1,
        ),
      );
  root = (is.root.0, (is.root.1.0, folder_of lines rows some [] is.root.0 enough (λ row has at. enough.stays row has (inl at)) is.root.1.1));
  only = λ path some_there. only_of lines rows some path enough (is.only path some_there);
}
