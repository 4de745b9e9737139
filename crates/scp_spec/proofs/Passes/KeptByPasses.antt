-- What each rule keeps, a pass keeps. `Sending` stands on it.
use Rattle.std.proofs.Common.{◌≡◌, ℕ, Option, Some, None, refl}
use Rattle.scp_types.specs.declared.ballot.Ballot.{Ballot}
use Rattle.scp_types.specs.declared.state.Phase.{Phase}
use Rattle.scp_types.specs.declared.state.Phase.TheVariants.{Preparing, Committing, Externalized}
use Rattle.scp_types.specs.declared.state.Inputs.{Inputs}
use Rattle.scp_types.specs.declared.state.Votes.{Votes}
use Rattle.scp_spec.specs.Views.{Seen}
use Rattle.scp_spec.specs.Nominating.{nominate}
use Rattle.scp_spec.specs.Balloting.{start, accept_prepared, confirm_prepared, accept_commit, confirm_commit}
use Rattle.scp_spec.specs.Passes.{raise, arm, with_ballot, on_ballot, while_preparing, in_prepare, while_open, unless_over, voting, counting, pass_rules, pass}

on-keeps : (P : Votes → Type 0) (f : Ballot → Votes → Votes) (w : Votes) → P w
    → ((b : Ballot) → w.ballot ≡ Some b → P (f b w)) → P (on_ballot f w)
on-keeps P f w h g = go w.ballot refl
  where
    go : (o : Option Ballot) → w.ballot ≡ o → P (with_ballot f w o)
    go None e = h
    go (Some b) e = g b e

prepare-keeps : (P : Votes → Type 0) (f : Votes → Votes) (w : Votes) → P w → (w.phase ≡ Preparing → P (f w))
    → P (in_prepare f w)
prepare-keeps P f w h g = go w.phase refl
  where
    go : (p : Phase) → w.phase ≡ p → P (while_preparing p f w)
    go Preparing e = g e
    go Committing e = h
    go Externalized e = h

unless-keeps : (P : Votes → Type 0) (f : Votes → Votes) (w : Votes) → P w → P (f w) → P (unless_over f w)
unless-keeps P f w h g = go w.phase
  where
    go : (p : Phase) → P (while_open p f w)
    go Preparing = g
    go Committing = g
    go Externalized = h

-- each rule keeps it, where the rule is tried
pub record EachKeeps (P : Votes → Type 0) (v : ℕ) (s : Seen) (g : Inputs) : Type 0 where
  pub nominates : (w : Votes) → P w → P (nominate v s g w)
  pub starts : (w : Votes) → P w → P (start s w)
  pub prepares : (b : Ballot) (w : Votes) → P w → P (accept_prepared s b w)
  pub confirms_prepared : (b : Ballot) (w : Votes) → w.phase ≡ Preparing → w.ballot ≡ Some b → P w
      → P (confirm_prepared s b w)
  pub accepts : (b : Ballot) (w : Votes) → w.ballot ≡ Some b → P w → P (accept_commit w.phase s b w)
  pub confirms : (b : Ballot) (w : Votes) → P w → P (confirm_commit w.phase s b w)
  pub raises : (b : Ballot) (w : Votes) → w.ballot ≡ Some b → P w → P (raise s g b w)
  pub arms : (b : Ballot) (w : Votes) → P w → P (arm s b w)

module _ (P : Votes → Type 0) (v : ℕ) (s : Seen) (g : Inputs) (each : EachKeeps P v s g) where
  voting-keeps : (w : Votes) → P w → P (voting s w)
  unfolding voting
  voting-keeps w h =
      let w2 = on_ballot (accept_prepared s) w in
      let w3 = in_prepare (on_ballot (confirm_prepared s)) w2 in
      let w4 = on_ballot (λ b x. accept_commit x.phase s b x) w3 in
      let h2 : P w2 = on-keeps P (accept_prepared s) w h (λ b e. each.prepares b w h) in
      let h3 : P w3 =
      prepare-keeps P (on_ballot (confirm_prepared s)) w2 h2
      (λ p. on-keeps P (confirm_prepared s) w2 h2 (λ b e. each.confirms_prepared b w2 p e h2)) in
      let h4 : P w4 = on-keeps P (λ b x. accept_commit x.phase s b x) w3 h3 (λ b e. each.accepts b w3 e h3) in
      on-keeps P (λ b x. confirm_commit x.phase s b x) w4 h4 (λ b e. each.confirms b w4 h4)

  counting-keeps : (w : Votes) → P w → P (counting s g w)
  unfolding counting
  counting-keeps w h =
      let w2 = on_ballot (raise s g) w in
      let h2 : P w2 = on-keeps P (raise s g) w h (λ b e. each.raises b w e h) in
      on-keeps P (arm s) w2 h2 (λ b e. each.arms b w2 h2)

  pub kept-by_pass : (w : Votes) → P w → P (pass v s g w)
  unfolding pass pass_rules
  kept-by_pass w h =
      let x = voting s (start s (nominate v s g w)) in
      let hx : P x =
      voting-keeps (start s (nominate v s g w)) (each.starts (nominate v s g w) (each.nominates w h)) in
      unless-keeps P (pass_rules v s g) w h (unless-keeps P (counting s g) x hx (counting-keeps x hx))
