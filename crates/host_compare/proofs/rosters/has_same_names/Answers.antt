use Rattle.std.proofs.Common.{◌∙◌, ℕ, List, sym, ap, IsTrue}
use Rattle.std.proofs.lemmas.Bool.{false≢true}
use Rattle.scp_spec.specs.Sets.{among, within}
use Rattle.host_compare.proofs.RosterSets.{same_names, within_same}
use Rattle.host_compare.proofs.rosters.has_same_names.Goals as goal

pub returns-then-not-is_within : goal.returns-then-not-is_within
returns-then-not-is_within c =
    let xs = c.args.one.now.names in
    let ys = c.args.other.now.names in (
      λ h. absurd (false≢true h),
      λ h. absurd (false≢true (sym c.if-not-is_within.true ∙ (c.is_within.ensures ∙ (ap (λ (zs : List ℕ). within zs (among ys)) c.names.ensures.value ∙ within_same xs ys h)))),
    )

pub returns : goal.returns
returns c =
    let xs = c.args.one.now.names in
    let ys = c.args.other.now.names in
    let first : IsTrue (within xs (among ys)) = sym (ap (λ (zs : List ℕ). within zs (among ys)) c.names.ensures.value) ∙ (sym c.is_within.ensures ∙ c.if-not-is_within.false) in (
      λ h. same_names xs ys first (sym (ap (λ (zs : List ℕ). within zs (among xs)) c.names-2.ensures.value) ∙ (sym c.is_within-2.ensures ∙ h)),
      λ h. c.is_within-2.ensures ∙ (ap (λ (zs : List ℕ). within zs (among xs)) c.names-2.ensures.value ∙ within_same ys xs (λ u. sym (h u))),
    )
