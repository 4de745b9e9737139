-- Members of a closure that the roster holds are never crowded out. The law `members_are_never_crowded_out` and
-- `Verdicts` stand on it.
use Rattle.scp_types.specs.declared.event.Refusal.{Refusal}
use Rattle.std.proofs.Common.{◌≡◌, ℕ, Bool, true, false, Option, Some, None, List, [], ◌∷◌, map, filter_map, cond, is_some, refl, sym, ◌∙◌, ap, ap₂, subst, inl, inr, ◌⊎◌, IsTrue}
use Rattle.std.specs.List.{cons_option}
use Rattle.scp_spec.specs.Sets.{Names, among, AreWithin}
use Rattle.scp_spec.specs.Rosters.{Roster}
use Rattle.scp_spec.specs.Networks.{HostedNode, Net, Step, Reply, slices_of, tests, first_that, state_and_reply, net_step}
use Rattle.scp_spec.specs.Networks.Reply.{Done, Refused}
use Rattle.scp_spec.specs.Hosts.{Config, Entry, journal_with, journal, new_net, nets, nodes_of, steps_of, entries}
use Rattle.scp_spec.specs.Isolation.{KeptStep, kept_step, kept_of, closure, outs_of, SameCast}
use Rattle.scp_spec.specs.Submissions.{Answer, net_run, answers, concerns, concerning_answers, concerning_steps, replied_to, config_of, SameRoster, SameReserves, names_on, roster_names, MembersAreNeverCrowdedOut, MembersOfRunsAreNeverCrowdedOut}
use Rattle.scp_spec.proofs.Runs.Openings.{HaveSlicesWithin}
use Rattle.scp_spec.proofs.Runs.KeptWithin.{nodes-closed, events-closed, closure-start}
use Rattle.scp_spec.proofs.Runs.SameSteps.{casts-same, nodes-other, no-instances, journals-agree}
use Rattle.scp_spec.proofs.Runs.Hosts.{steps_to, applied-journal, answers-run, HasNet, find_net, nobody}
use Rattle.scp_spec.proofs.Crowds.Views.{view, Frame, frame, replies_in}
use Rattle.scp_spec.proofs.Crowds.Others.{others-kept}
use Rattle.scp_spec.proofs.Crowds.Runs.{AllGood, Shows, shows}

-- ---- what is kept of a run follows from the answers to what concerns R
abbrev if_done : Reply → Option KeptStep → Option KeptStep
if_done (Done os) k = k
if_done (Refused n) k = None

abbrev kept_answer : Names → ℕ → Answer → Option KeptStep
kept_answer R i x = if_done x.reply (kept_step R i x.step)

kept_step-answers : (R : Names) (i : ℕ) (es : List Step) (net : Net)
    → kept_of R i (journal net es) ≡ filter_map (kept_answer R i) (concerning_answers R i (net_run net es))
unfolding kept_of journal net_run net_step
kept_step-answers R i [] net = refl
kept_step-answers R i (e ∷ es) net =
    go (concerns R i e) refl (first_that (tests net e)) (λ n. kept_step-answers R i es n)
  where
    rest : Option Refusal → List Answer
    rest o = concerning_answers R i (net_run (state_and_reply net e o).0 es)

    go : (b : Bool) → concerns R i e ≡ b → (o : Option Refusal)
        → ((n : Net) → kept_of R i (journal n es) ≡ filter_map (kept_answer R i) (concerning_answers R i (net_run n es)))
        → kept_of R i (journal_with e (state_and_reply net e o).1 (journal (state_and_reply net e o).0 es))
        ≡ filter_map (kept_answer R i)
        (cond b (record { step = e; reply = (state_and_reply net e o).1 } ∷ rest o) (rest o))
    go true c (Some n) ih = ih net
    go true c None ih = ap (λ ks. cons_option (kept_step R i e) ks) (ih (state_and_reply net e None).0)
    go false c (Some n) ih = ih net
    go false c None ih =
        ap (λ (k : Option KeptStep). cons_option k (kept_of R i (journal (state_and_reply net e None).0 es)))
        (others-kept R i e c)
        ∙ ih (state_and_reply net e None).0

-- answers are their steps with their replies
one-list : (xs ys : List Answer) → map (λ x. x.step) xs ≡ map (λ x. x.step) ys
    → map (λ x. x.reply) xs ≡ map (λ x. x.reply) ys → xs ≡ ys
one-list [] [] a b = refl
one-list [] (y ∷ ys) a b = cc
one-list (x ∷ xs) [] a b = cc
one-list (x ∷ xs) (y ∷ ys) a b =
    let s : x.step ≡ y.step = cc in
    let t : x.reply ≡ y.reply = cc in
    let ss : map (λ x. x.step) xs ≡ map (λ x. x.step) ys = cc in
    let ts : map (λ x. x.reply) xs ≡ map (λ x. x.reply) ys = cc in
    ap₂ {C = List Answer} (λ (z : Answer) (zs : List Answer). z ∷ zs) (λ j. record { step = s j; reply = t j })
    (one-list xs ys ss ts)

-- ---- one network in each history
pub replies-agree : (config config' : Config) (r r' : Roster) (i v : ℕ) (es es' : List Step) → config.roster ≡ Some r
    → config'.roster ≡ Some r' →
    let R = closure config.nodes i v (journal (new_net config) es) in
    SameCast R v config.nodes config'.nodes → ((u : ℕ) → among r.names u ≡ among r'.names u) → r.shares ≡ r'.shares
    → config.budgets.slots ≡ config'.budgets.slots
    → AreWithin R (among r.names)
    → concerning_steps R i (net_run (new_net config) es) ≡ concerning_steps R i (net_run (new_net config') es')
    → replied_to R i (net_run (new_net config) es) ≡ replied_to R i (net_run (new_net config') es')
replies-agree config config' r r' i v es es' h h' cast names shares slots on same =
    let run = journal (new_net config) es in
    let R : Names = closure config.nodes i v run in
    let closed : HaveSlicesWithin R config.nodes = nodes-closed config.nodes i v run in
    let on' : (u : ℕ) → R u ≡ true → among r'.names u ≡ true = λ u m. sym (names u) ∙ on u m in
    let one : Shows R i r on (new_net config) (concerning_answers R i (net_run (new_net config) es)) run =
    shows R i r on es (new_net config) (record { instances = no-instances R i config; nodes = closed; roster = h })
    (inl (events-closed config.nodes i v run)) in
    let frames : frame R r (new_net config) ≡ frame R r' (new_net config') =
    λ j. record { cast = casts-same R v config.nodes config'.nodes cast j; shares = shares j; slots = slots j } in
    let good : AllGood R i (frame R r' (new_net config')) (view R i (new_net config'))
    (concerning_steps R i (net_run (new_net config') es')) =
    subst (λ (z : Frame × List Step). AllGood R i z.0 (view R i (new_net config)) z.1)
    (λ j. (frames j, same j)) one.good in
    let other : Shows R i r' on' (new_net config') (concerning_answers R i (net_run (new_net config') es'))
    (journal (new_net config') es') =
    shows R i r' on' es' (new_net config')
    (record {
      instances = no-instances R i config';
      nodes = nodes-other R v config.nodes config'.nodes cast closed;
      roster = h';
    }) (inr good) in
    one.replies
    ∙ (ap₂ (λ (f : Frame) (steps : List Step). replies_in R i f (view R i (new_net config)) steps) frames same
    ∙ sym other.replies)

-- and each hosted member gives out the same
pub outs-agree : (config config' : Config) (i v : ℕ) (es es' : List Step) →
    let R = closure config.nodes i v (journal (new_net config) es) in
    SameCast R v config.nodes config'.nodes
    → concerning_steps R i (net_run (new_net config) es) ≡ concerning_steps R i (net_run (new_net config') es')
    → replied_to R i (net_run (new_net config) es) ≡ replied_to R i (net_run (new_net config') es')
    → (u : ℕ) → R u ≡ true → outs_of i u (journal (new_net config) es) ≡ outs_of i u (journal (new_net config') es')
outs-agree config config' i v es es' cast steps replies =
    let R : Names = closure config.nodes i v (journal (new_net config) es) in
    journals-agree config config' i v es es' cast
    (kept_step-answers R i es (new_net config)
    ∙ (ap (filter_map (kept_answer R i))
    (one-list (concerning_answers R i (net_run (new_net config) es))
    (concerning_answers R i (net_run (new_net config') es')) steps replies)
    ∙ sym (kept_step-answers R i es' (new_net config'))))

-- ---- two host histories
-- one network, in each of them
record Agree (one other : Config) (i v : ℕ) (runs runs' : List Entry) (xs ys : List Answer) : Type 0 where
  replies : SameReserves (Some one) (Some other)
      → AreWithin (closure one.nodes i v runs) (among (roster_names (Some one)))
      → concerning_steps (closure one.nodes i v runs) i xs ≡ concerning_steps (closure one.nodes i v runs) i ys
      → replied_to (closure one.nodes i v runs) i xs ≡ replied_to (closure one.nodes i v runs) i ys
  outs : concerning_steps (closure one.nodes i v runs) i xs ≡ concerning_steps (closure one.nodes i v runs) i ys
      → replied_to (closure one.nodes i v runs) i xs ≡ replied_to (closure one.nodes i v runs) i ys
      → (u : ℕ) → IsTrue (closure one.nodes i v runs u) → outs_of i u runs ≡ outs_of i u runs'

agrees : (one other : Config) (i v : ℕ) (es es' : List Step)
    → SameCast (closure one.nodes i v (journal (new_net one) es)) v one.nodes other.nodes
    → Agree one other i v (journal (new_net one) es) (journal (new_net other) es') (net_run (new_net one) es)
    (net_run (new_net other) es')
agrees one other i v es es' cast = record {
  replies = λ reserves on same. go one.roster other.roster refl refl reserves.0 on reserves.1 same;
  outs = λ steps replies u r. outs-agree one other i v es es' cast steps replies u r;
}
  where
    R : Names
    R = closure one.nodes i v (journal (new_net one) es)

    go : (o p : Option Roster) → one.roster ≡ o → other.roster ≡ p → SameRoster o p → AreWithin R (among (names_on o))
        → one.budgets.slots ≡ other.budgets.slots
        → concerning_steps R i (net_run (new_net one) es) ≡ concerning_steps R i (net_run (new_net other) es')
        → replied_to R i (net_run (new_net one) es) ≡ replied_to R i (net_run (new_net other) es')
    go None p h k reserves on slots same = absurd reserves
    go (Some r) None h k reserves on slots same = absurd reserves
    go (Some r) (Some s) h k reserves on slots same =
        replies-agree one other r s i v es es' h k cast reserves.0 reserves.1 slots on same

-- two networks, each with its own submitted steps
pub never_crowded_out_of_runs : MembersOfRunsAreNeverCrowdedOut
never_crowded_out_of_runs one other es fs i v cast reserves on same =
    let agree = agrees one other i v es fs cast in
    let replies = agree.replies reserves on same in
    (replies, λ u r. agree.outs same replies u r)

-- all that the theorem speaks of
record Worlds : Type 0 where
  nodes : List HostedNode
  nodes' : List HostedNode
  config : Option Config
  config' : Option Config
  runs : List Entry
  runs' : List Entry
  xs : List Answer
  ys : List Answer

abbrev Claim : ℕ → ℕ → Worlds → Type 0
Claim i v w =
    let R = closure w.nodes i v w.runs in
    SameCast R v w.nodes w.nodes' → SameReserves w.config w.config' → AreWithin R (among (roster_names w.config))
    → concerning_steps R i w.xs ≡ concerning_steps R i w.ys
    → (replied_to R i w.xs ≡ replied_to R i w.ys)
    × ((u : ℕ) → IsTrue (R u) → IsTrue (is_some (slices_of w.nodes u)) → outs_of i u w.runs ≡ outs_of i u w.runs')

pub never_crowded_out : MembersAreNeverCrowdedOut
never_crowded_out decode one other g i v cast reserves on same = go (find_net one.configs g) (find_net other.configs g)
  where
    R : Names
    R = closure (nodes_of one.configs g) i v (entries decode one g)

    es : List Step
    es = steps_to g (steps_of decode one.calls)

    es' : List Step
    es' = steps_to g (steps_of decode other.calls)

    worlds : Worlds
    worlds = record {
      nodes = nodes_of one.configs g;
      nodes' = nodes_of other.configs g;
      config = config_of one.configs g;
      config' = config_of other.configs g;
      runs = entries decode one g;
      runs' = entries decode other g;
      xs = answers decode one g;
      ys = answers decode other g;
    }

    go : (nodes_of one.configs g ≡ []) ⊎ HasNet one.configs g → (nodes_of other.configs g ≡ []) ⊎ HasNet other.configs g
        → (replied_to R i (answers decode one g) ≡ replied_to R i (answers decode other g))
        × ((u : ℕ) → IsTrue (R u) → IsTrue (is_some (slices_of (nodes_of one.configs g) u))
        → outs_of i u (entries decode one g) ≡ outs_of i u (entries decode other g))
    go (inl e) n = absurd (nobody (nodes_of one.configs g) v e cast.hosted)
    go (inr a) (inl e) =
        absurd (nobody (nodes_of other.configs g) v e
        (sym (ap is_some (cast.same v (closure-start (nodes_of one.configs g) i v (entries decode one g))))
        ∙ cast.hosted))
    go (inr a) (inr b) = subst (Claim i v) (sym (alike a b)) (λ c reserves on same.
        let agree = agrees a.config b.config i v es es' c in
        let replies = agree.replies reserves on same in
        (replies, λ u r h. agree.outs same replies u r)) cast reserves on same
      where
        alike : (a : HasNet one.configs g) (b : HasNet other.configs g) → worlds ≡ record {
          nodes = a.config.nodes;
          nodes' = b.config.nodes;
          config = Some a.config;
          config' = Some b.config;
          runs = journal (new_net a.config) es;
          runs' = journal (new_net b.config) es';
          xs = net_run (new_net a.config) es;
          ys = net_run (new_net b.config) es';
        }
        alike a b =
            let p : entries decode one g ≡ journal (new_net a.config) es =
            applied-journal g (steps_of decode one.calls) (nets one.configs) (new_net a.config) a.is in
            let q : entries decode other g ≡ journal (new_net b.config) es' =
            applied-journal g (steps_of decode other.calls) (nets other.configs) (new_net b.config) b.is in
            let s : answers decode one g ≡ net_run (new_net a.config) es =
            answers-run g (steps_of decode one.calls) (nets one.configs) (new_net a.config) a.is in
            let t : answers decode other g ≡ net_run (new_net b.config) es' =
            answers-run g (steps_of decode other.calls) (nets other.configs) (new_net b.config) b.is in
            λ j. record {
              nodes = a.of j;
              nodes' = b.of j;
              config = a.at j;
              config' = b.at j;
              runs = p j;
              runs' = q j;
              xs = s j;
              ys = t j;
            }
