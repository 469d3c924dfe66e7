use Rattle.std.proofs.Common.{◌≡◌, ◌∙◌, ap, subst, true, codes, ℕ, List, [], Bool, IfOk}
use Rattle.exported.specs.Capabilities.{with_cap, is_chosen, mounts_caps, exec_caps}
use Rattle.exported.proofs.capabilities.exec_caps.Goals as goal

pub returns : goal.returns
unfolding exec_caps
returns c =
    let base : c.in_ok-caps.caps.entries ≡ with_cap true (codes "exec.meta.base") [] = c.in_ok-caps.ensures in
    let chosen : c.in_ok-caps-2.caps.entries ≡ with_cap (is_chosen c.args.exec.now.network) (codes "exec.meta.network") c.in_ok-caps.caps.entries =
    c.in_ok-caps-2.ensures ∙ ap (λ asked. with_cap asked (codes "exec.meta.network") c.in_ok-caps.caps.entries) c.is_chosen.ensures in
    let all =
    ap (λ mounts. mounts_caps mounts c.in_ok-caps-2.caps.entries) c.as_slice.ensures
    ∙ ap (mounts_caps c.args.exec.now.mounts)
    (chosen ∙ ap (with_cap (is_chosen c.args.exec.now.network) (codes "exec.meta.network")) base) in
    subst (λ (entries : List (List ℕ × Bool)). IfOk c.mounts_caps.result (λ caps. caps.entries ≡ entries)) all c.mounts_caps.ensures
