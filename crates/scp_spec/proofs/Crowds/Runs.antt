-- Submissions to one network, as R sees them: the replies to the steps that concern R follow from these steps alone.
-- `Members` and `WithoutRoster` stand on it.
use Rattle.scp_types.specs.declared.event.Refusal.{Refusal}
use Rattle.scp_types.specs.declared.event.Out.{Out}
use Rattle.std.proofs.Common.{◌≡◌, ◌⊎◌, ℕ, Bool, true, false, ◌&&◌, ◌==◌, ◌+◌, Option, Some, None, List, [], ◌∷◌, ◌++◌, map, filter, cond, if◌then◌else◌, refl, sym, ◌∙◌, ap, ap₂, subst, inl, inr, arith}
use Rattle.std.proofs.lemmas.Bool.{and_parts, and_from, false≢true}
use Rattle.scp_spec.specs.Sets.{Names, among}
use Rattle.scp_spec.specs.Rosters.{Roster, Draw}
use Rattle.scp_spec.specs.Networks.{Net, Step, Reply, source, size_of, on_shares, on_opens, effect, tests, first_that, state_and_reply, net_step}
use Rattle.scp_spec.specs.Networks.Reading.{Read, Fault}
use Rattle.scp_spec.specs.Networks.Step.{Opens, Closes, Proposes, Delivers, Hears, NominationTimerFires, BallotTimerFires, Reslices}
use Rattle.scp_spec.specs.Networks.Reply.{Done, Refused}
use Rattle.scp_spec.specs.Hosts.{Entry, journal_with, journal}
use Rattle.scp_spec.specs.Isolation.{KeptStep, when_kept, kept_step, is_of}
use Rattle.scp_spec.specs.Isolation.KeptStep.{Opening, Closing}
use Rattle.scp_spec.specs.Submissions.{Answer, net_run, concerns, concerning_answers}
use Rattle.scp_spec.proofs.Equality.Sameness.{eqb-refl}
use Rattle.scp_spec.proofs.Runs.Sights.{Sight, sight, AllInstances, play, reply}
use Rattle.scp_spec.proofs.Runs.Follows.{Follows}
use Rattle.scp_spec.proofs.Runs.Events.{IsWithin, follows}
use Rattle.scp_spec.proofs.Runs.Openings.{HaveSlicesWithin, cast_of}
use Rattle.scp_spec.proofs.Networks.Effects.{next, effect-keeps, left}
use Rattle.scp_spec.proofs.Runs.KeptSteps.{AllIn, is_new}
use Rattle.scp_spec.proofs.Runs.KeptWithin.{kept_step-to, if_kept}
use Rattle.scp_spec.proofs.Crowds.Views.{View, view, Frame, frame, share_of, node_of, tests_in, next_in, replied_in, step_in, replies_in, is_ours}
use Rattle.scp_spec.proofs.Crowds.Concerned.{as_concerned, ours-left, kept-true}
use Rattle.scp_spec.proofs.Crowds.Others.{others-left, others-opens, others-numbers, others-kept}

-- applied deliveries to members from members announce members alone
abbrev pub AllGood : Names → ℕ → Frame → View → List Step → Type 0
AllGood R i f w [] = Unit {0}
AllGood R i f w (e ∷ es) =
    (first_that (tests_in f w e) ≡ None → IsWithin R i e) × AllGood R i f (step_in R i f w e).0 es

pub plus_nothing : (n : ℕ) → n + 0 ≡ n
plus_nothing n = omega arith

-- what an applied step gives out, whose node is a member
module _ (R : Names) (i : ℕ) where
  outs-opened : (s : Sight) (b : Bool) (k : KeptStep) → ((w : ℕ) → reply s (Some k) w ≡ []) → [] ≡ reply s (when_kept b k) 0
  outs-opened s true k f = sym (f 0)
  outs-opened s false k f = refl

  outs-of : (net : Net) (e : Step) → concerns R i e ≡ true
      → Follows R (cast_of R net.nodes) i net (effect net e) (λ w. is_of i w e) (kept_step R i e)
      → (effect net e).1 ≡ reply (sight R i net) (kept_step R i e) (node_of e)
  unfolding effect
  outs-of net (Opens j) c f = outs-opened (sight R i net) (j == i) Opening (λ w. refl)
  outs-of net (Closes j) c f = outs-opened (sight R i net) (j == i) Closing (λ w. refl)
  outs-of net (Proposes j u x) c f =
      let m = and_parts (j == i) (R u) (kept-true ((j == i) && R u) _ c) in
      sym (ap (λ b. if b then (effect net (Proposes j u x)).1 else []) (and_from (j == i) (u == u) m.0 (eqb-refl u)))
      ∙ f.replies u m.1
  outs-of net (Delivers u size (Fault n)) c f = absurd (false≢true c)
  outs-of net (Delivers u size (Read e)) c f =
      let p = and_parts ((e.slot == i) && R u) (R e.sender) (kept-true ((e.slot == i) && R u && R e.sender) _ c) in
      let m = and_parts (e.slot == i) (R u) p.0 in
      sym (ap (λ b. if b then (effect net (Delivers u size (Read e))).1 else [])
      (and_from (e.slot == i) (u == u) m.0 (eqb-refl u))) ∙ f.replies u m.1
  outs-of net (Hears j u from kind n) c f =
      let p = and_parts ((j == i) && R u) (R from) (kept-true ((j == i) && R u && R from) _ c) in
      let m = and_parts (j == i) (R u) p.0 in
      sym (ap (λ b. if b then (effect net (Hears j u from kind n)).1 else [])
      (and_from (j == i) (u == u) m.0 (eqb-refl u))) ∙ f.replies u m.1
  outs-of net (NominationTimerFires j u n) c f =
      let m = and_parts (j == i) (R u) (kept-true ((j == i) && R u) _ c) in
      sym (ap (λ b. if b then (effect net (NominationTimerFires j u n)).1 else [])
      (and_from (j == i) (u == u) m.0 (eqb-refl u))) ∙ f.replies u m.1
  outs-of net (BallotTimerFires j u n) c f =
      let m = and_parts (j == i) (R u) (kept-true ((j == i) && R u) _ c) in
      sym (ap (λ b. if b then (effect net (BallotTimerFires j u n)).1 else [])
      (and_from (j == i) (u == u) m.0 (eqb-refl u)))
      ∙ f.replies u m.1
  outs-of net (Reslices j u q) c f =
      let m = and_parts (j == i) (R u) (kept-true ((j == i) && R u) _ c) in
      sym (ap (λ b. if b then (effect net (Reslices j u q)).1 else []) (and_from (j == i) (u == u) m.0 (eqb-refl u)))
      ∙ f.replies u m.1

module _ (R : Names) (i : ℕ) (r : Roster) (on : (u : ℕ) → R u ≡ true → among r.names u ≡ true) where
  -- a network of which R is known to see enough
  pub record Stands (net : Net) : Type 0 where
    pub instances : AllInstances R i net
    pub nodes : HaveSlicesWithin R net.nodes
    pub roster : net.roster ≡ Some r

  follows-here : (net : Net) (e : Step) → Stands net → first_that (tests net e) ≡ None → IsWithin R i e
      → Follows R (cast_of R net.nodes) i net (effect net e) (λ w. is_of i w e) (kept_step R i e)
  follows-here net e s q f = follows R i net e s.instances s.nodes (is_new net e q) f

  stands-next : (net : Net) (e : Step) → Stands net → first_that (tests net e) ≡ None → IsWithin R i e
      → Stands (next net e)
  stands-next net e s q f =
      let k = effect-keeps net e in
      record {
        instances = (follows-here net e s q f).instances;
        nodes = subst (HaveSlicesWithin R) (sym k.nodes) s.nodes;
        roster = k.roster ∙ s.roster;
      }

  frame-next : (net : Net) (e : Step) → frame R r (next net e) ≡ frame R r net
  frame-next net e = let k = effect-keeps net e in
      λ j. record { cast = cast_of R (k.nodes j); shares = r.shares; slots = (k.budgets j).slots }

  -- a step that concerns R
  view-concerned : (net : Net) (e : Step) → Stands net → concerns R i e ≡ true → first_that (tests net e) ≡ None
      → IsWithin R i e → view R i (next net e) ≡ next_in R i (frame R r net) (view R i net) e
  view-concerned net e s c q f =
      let k = effect-keeps net e in
      let d = (as_concerned R i r on net s.roster e c).draws in
      let draws : filter (is_ours R i) (on_shares (source net.roster e) (size_of e) ++ (effect net e).0.draws)
      ≡ on_shares (share_of r.shares e) (size_of e) ++ left e (filter (is_ours R i) net.draws) =
      ap₂ (λ z (ds : List Draw). filter (is_ours R i) (on_shares z (size_of e) ++ ds)) d k.draws
      ∙ ours-left R i r on e c net.draws in
      λ j. record {
        sight = (follows-here net e s q f).sights j;
        numbers = k.slots j;
        draws = draws j;
        opens = k.opens j + on_opens (d j);
      }

  -- a step that doesn't
  view-others : (net : Net) (e : Step) → Stands net → concerns R i e ≡ false → first_that (tests net e) ≡ None
      → IsWithin R i e → view R i (next net e) ≡ view R i net
  view-others net e s c q f =
      let k = effect-keeps net e in
      let sights : sight R i (effect net e).0 ≡ sight R i net = (follows-here net e s q f).sights
      ∙ ap (play (cast_of R net.nodes) i (sight R i net)) (others-kept R i e c) in
      let draws : filter (is_ours R i) (on_shares (source net.roster e) (size_of e) ++ (effect net e).0.draws)
      ≡ filter (is_ours R i) net.draws =
      ap (λ (ds : List Draw). filter (is_ours R i) (on_shares (source net.roster e) (size_of e) ++ ds)) k.draws
      ∙ others-left R i net.roster e c net.draws in
      let slots = k.slots ∙ others-numbers R i e c _ in
      let opens : (effect net e).0.opens + on_opens (source net.roster e) ≡ net.opens =
      ap₂ (λ m n. m + n) k.opens (others-opens R i net.roster e c) ∙ plus_nothing net.opens in
      λ j. record { sight = sights j; numbers = slots j; draws = draws j; opens = opens j }

  -- what answers and entries show that a network gave, of which R sees this
  pub record Shows (net : Net) (xs : List Answer) (entries : List Entry) : Type 0 where
    pub replies : map (λ x. x.reply) xs ≡ replies_in R i (frame R r net) (view R i net) (map (λ x. x.step) xs)
    pub good : AllGood R i (frame R r net) (view R i net) (map (λ x. x.step) xs)
    pub within : AllIn R i entries

  -- applied deliveries of members announce members: known by the journal, or by what concerns R
  abbrev pub IsGood : Net → List Answer → List Entry → Type 0
  IsGood net xs entries = AllIn R i entries ⊎ AllGood R i (frame R r net) (view R i net) (map (λ x. x.step) xs)

  -- one answer more, or the same ones
  abbrev with_one : Bool → Answer → List Answer → List Answer
  with_one b x xs = cond b (x ∷ xs) xs

  at_view : (net : Net) (w w' : View) (xs : List Answer) → w ≡ w' → AllGood R i (frame R r net) w (map (λ x. x.step) xs)
      → AllGood R i (frame R r net) w' (map (λ x. x.step) xs)
  at_view net w w' xs e h = subst (λ v. AllGood R i (frame R r net) v (map (λ x. x.step) xs)) e h

  -- from one network to another of which R sees the same
  good-as : (net net' : Net) (w : View) (xs : List Answer) → frame R r net ≡ frame R r net' → view R i net ≡ w
      → AllGood R i (frame R r net) (view R i net) (map (λ x. x.step) xs)
      → AllGood R i (frame R r net') w (map (λ x. x.step) xs)
  good-as net net' w xs f v h =
      subst (λ (z : Frame × View). AllGood R i z.0 z.1 (map (λ x. x.step) xs)) (λ j. (f j, v j)) h

  good-back : (net net' : Net) (w : View) (xs : List Answer) → frame R r net ≡ frame R r net' → view R i net ≡ w
      → AllGood R i (frame R r net') w (map (λ x. x.step) xs)
      → AllGood R i (frame R r net) (view R i net) (map (λ x. x.step) xs)
  good-back net net' w xs f v h =
      subst (λ (z : Frame × View). AllGood R i z.0 z.1 (map (λ x. x.step) xs)) (sym (λ j. (f j, v j))) h

  replies-as : (net net' : Net) (w : View) (xs : List Answer) → frame R r net ≡ frame R r net' → view R i net ≡ w
      → replies_in R i (frame R r net) (view R i net) (map (λ x. x.step) xs)
      ≡ replies_in R i (frame R r net') w (map (λ x. x.step) xs)
  replies-as net net' w xs f v = ap₂ (λ (a : Frame) (b : View). replies_in R i a b (map (λ x. x.step) xs)) f v

  pub shows : (es : List Step) (net : Net) → Stands net → IsGood net (concerning_answers R i (net_run net es)) (journal net es)
      → Shows net (concerning_answers R i (net_run net es)) (journal net es)
  unfolding net_run journal net_step
  shows [] net s g = record { replies = refl; good = tt; within = tt }
  shows (e ∷ es) net s g = go (concerns R i e) refl (first_that (tests net e)) refl g (λ n. shows es n)
    where
      answer : Option Refusal → Answer
      answer o = record { step = e; reply = (state_and_reply net e o).1 }

      rest : Option Refusal → List Answer
      rest o = concerning_answers R i (net_run (state_and_reply net e o).0 es)

      entries : Option Refusal → List Entry
      entries o = journal_with e (state_and_reply net e o).1 (journal (state_and_reply net e o).0 es)

      Hypothesis : Type 0
      Hypothesis = (n : Net) → Stands n → IsGood n (concerning_answers R i (net_run n es)) (journal n es)
          → Shows n (concerning_answers R i (net_run n es)) (journal n es)

      go : (b : Bool) → concerns R i e ≡ b → (o : Option Refusal) → first_that (tests net e) ≡ o
          → IsGood net (with_one b (answer o) (rest o)) (entries o) → Hypothesis
          → Shows net (with_one b (answer o) (rest o)) (entries o)
      go false c (Some n) q g ih = ih net s g
      go false c None q g ih =
          let w : IsWithin R i e = kept_step-to R R i e (λ u r. r) (subst (if_kept R) (sym (others-kept R i e c)) tt) in
          let f = frame-next net e in
          let v = view-others net e s c q w in
          let before : IsGood (next net e) (rest None) (journal (next net e) es) =
          elim g [ inl a ↦ inl a.1 | inr h ↦ inr (good-back (next net e) net (view R i net) (rest None) f v h) ] in
          let done = ih (next net e) (stands-next net e s q w) before in
          record {
            replies = done.replies ∙ replies-as (next net e) net (view R i net) (rest None) f v;
            good = good-as (next net e) net (view R i net) (rest None) f v done.good;
            within = (w, done.within);
          }
      go true c (Some n) q g ih =
          let there : first_that (tests_in (frame R r net) (view R i net) e) ≡ Some n =
          sym (ap first_that (as_concerned R i r on net s.roster e c).tested) ∙ q in
          let stays : (step_in R i (frame R r net) (view R i net) e).0 ≡ view R i net =
          ap (λ o. (replied_in R i (frame R r net) (view R i net) e o).0) there in
          let before : IsGood net (rest (Some n)) (journal net es) =
          elim g [ inl a ↦ inl a | inr h ↦ inr (at_view net _ (view R i net) (rest (Some n)) stays h.1) ] in
          let done = ih net s before in
          record {
            replies = ap (λ rs. Refused n ∷ rs) done.replies
                ∙ ap (λ o. (replied_in R i (frame R r net) (view R i net) e o).1 ∷ replies_in R i (frame R r net)
                (replied_in R i (frame R r net) (view R i net) e o).0 (map (λ x. x.step) (rest (Some n)))) (sym there);
            good = (
              λ h. absurd (refused n (sym there ∙ h)),
              at_view net (view R i net) _ (rest (Some n)) (sym stays) done.good,
            );
            within = done.within;
          }
        where
          refused : (n : Refusal) → Some n ≡ None → ⊥
          refused n h = cc
      go true c None q g ih =
          let there : first_that (tests_in (frame R r net) (view R i net) e) ≡ None =
          sym (ap first_that (as_concerned R i r on net s.roster e c).tested) ∙ q in
          let w : IsWithin R i e = elim g [ inl a ↦ a.0 | inr h ↦ h.0 there ] in
          let moves : (step_in R i (frame R r net) (view R i net) e).0 ≡ next_in R i (frame R r net) (view R i net) e =
          ap (λ o. (replied_in R i (frame R r net) (view R i net) e o).0) there in
          let f = frame-next net e in
          let v = view-concerned net e s c q w in
          let outs = outs-of R i net e c (follows-here net e s q w) in
          let before : IsGood (next net e) (rest None) (journal (next net e) es) =
          elim g [
            | inl a ↦ inl a.1
            | inr h ↦ inr
                (good-back (next net e) net (next_in R i (frame R r net) (view R i net) e) (rest None) f v
                (at_view net _ (next_in R i (frame R r net) (view R i net) e) (rest None) moves h.1))
          ] in
          let done = ih (next net e) (stands-next net e s q w) before in
          record {
            replies =
                ap₂ {C = List Reply} (λ (os : List Out) (rs : List Reply). Done os ∷ rs) outs
                (done.replies ∙ replies-as (next net e) net (next_in R i (frame R r net) (view R i net) e)
                (rest None) f v)
                ∙ ap (λ o. (replied_in R i (frame R r net) (view R i net) e o).1 ∷ replies_in R i (frame R r net)
                (replied_in R i (frame R r net) (view R i net) e o).0 (map (λ x. x.step) (rest None))) (sym there);
            good = (
              λ h. w,
              at_view net (next_in R i (frame R r net) (view R i net) e) _ (rest None) (sym moves)
                  (good-as (next net e) net (next_in R i (frame R r net) (view R i net) e) (rest None) f v done.good),
            );
            within = (w, done.within);
          }
