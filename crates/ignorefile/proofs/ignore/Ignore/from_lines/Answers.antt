use Rattle.std.proofs.Common.{ap}
use Rattle.ignorefile.proofs.Handing.{index-more-named, index-more-begun, index-more-lying, index-more-counted, index-more-other, index-moved}
use Rattle.ignorefile.proofs.ignore.Ignore.from_lines.Goals as goal
use Rattle.ignorefile.proofs.ignore.Ignore.from_lines.Goals.{in-Some+in_ok-add-in-Some, in-None+in-Some-last_begin+in_ok-enter-in-Some-last_begin, in-None+in-None-last_begin+in-Some-folder_name+in_ok-add-in-Some-folder_name, in-None+in-None-last_begin+in-None-folder_name+in-Some-count+in_ok-enter-in-Some-count, in-None+in-None-last_begin+in-None-folder_name+in-None-count+in_ok-push-in-None-count}

pub loop-position-preserved : goal.loop-position-preserved
loop-position-preserved c =
    elim c.match-last_name.branch [
      | in-Some+in_ok-add-in-Some w ↦
          index-moved _ _ _ _ _ _ _ _ _ _ _ (ap (λ m. m.entries) w.by_name-is) (ap (λ m. m.entries) w.by_folder-is) w.by_begin-is w.by_count-is w.others-is
          (index-more-named _ _ _ _ _ _ _ _ c.loop-position-test.true c.index-rows-position.is c.loop-position.invariant _ _ w.in-Some.ensures w.in_ok-add-in-Some.ensures)
      | in-None+in-Some-last_begin+in_ok-enter-in-Some-last_begin w ↦
          index-moved _ _ _ _ _ _ _ _ _ _ _ (ap (λ m. m.entries) w.by_name-is) (ap (λ m. m.entries) w.by_folder-is) w.by_begin-is w.by_count-is w.others-is
          (index-more-begun _ _ _ _ _ _ _ _ c.loop-position-test.true c.index-rows-position.is c.loop-position.invariant _ _ w.in-Some-last_begin.ensures w.in_ok-enter-in-Some-last_begin.ensures)
      | in-None+in-None-last_begin+in-Some-folder_name+in_ok-add-in-Some-folder_name w ↦
          index-moved _ _ _ _ _ _ _ _ _ _ _ (ap (λ m. m.entries) w.by_name-is) (ap (λ m. m.entries) w.by_folder-is) w.by_begin-is w.by_count-is w.others-is
          (index-more-lying _ _ _ _ _ _ _ _ c.loop-position-test.true c.index-rows-position.is c.loop-position.invariant _ _ w.in-Some-folder_name.ensures w.in_ok-add-in-Some-folder_name.ensures)
      | in-None+in-None-last_begin+in-None-folder_name+in-Some-count+in_ok-enter-in-Some-count w ↦
          index-moved _ _ _ _ _ _ _ _ _ _ _ (ap (λ m. m.entries) w.by_name-is) (ap (λ m. m.entries) w.by_folder-is) w.by_begin-is w.by_count-is w.others-is
          (index-more-counted _ _ _ _ _ _ _ _ c.loop-position-test.true c.index-rows-position.is c.loop-position.invariant _ _ w.in-Some-count.ensures w.in_ok-enter-in-Some-count.ensures)
      | in-None+in-None-last_begin+in-None-folder_name+in-None-count+in_ok-push-in-None-count w ↦
          index-moved _ _ _ _ _ _ _ _ _ _ _ (ap (λ m. m.entries) w.by_name-is) (ap (λ m. m.entries) w.by_folder-is) w.by_begin-is w.by_count-is w.others-is
          (index-more-other _ _ _ _ _ _ _ _ c.loop-position-test.true c.index-rows-position.is c.loop-position.invariant _ w.in_ok-push-in-None-count.ensures.ok)
    ]
