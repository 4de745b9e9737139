-- What the kept steps for one set say of what lies in another: with it the closure of a run says what its hosted
-- members announce. `Crowds` stands on it.
use Rattle.std.proofs.Common.{◌≡◌, ℕ, Bool, true, false, ◌&&◌, ◌==◌, Option, Some, None, List, [], ◌∷◌, ◌++◌, map, flat_map, if◌then◌else◌, refl, ◌∙◌, ap, subst}
use Rattle.std.specs.List.{list_all, AllByRecursion, cons_option}
use Rattle.std.proofs.lemmas.Bool.{and_parts, and_from, false≢true, eqb-true}
use Rattle.scp_types.specs.Trees.{Slices}
use Rattle.scp_spec.specs.Sets.{Names, AreWithin, within}
use Rattle.scp_spec.specs.Satisfaction.{names}
use Rattle.scp_spec.specs.Closures.{keeps}
use Rattle.scp_types.specs.declared.event.NodeEvent.TheVariants.{Propose, Take, NominationTimer, BallotTimer, Reslice}
use Rattle.scp_spec.specs.Networks.{HostedNode, Step, slices_of}
use Rattle.scp_spec.specs.Networks.Reading.{Read, Fault}
use Rattle.scp_spec.specs.Networks.Step.{Opens, Closes, Proposes, Delivers, Hears, NominationTimerFires, BallotTimerFires, Reslices}
use Rattle.scp_spec.specs.Hosts.{Entry}
use Rattle.scp_spec.specs.Isolation.{KeptStep, when_kept, kept_step, kept_of, node_rule, announcement_rules, closure}
use Rattle.scp_spec.specs.Isolation.KeptStep.{Opening, Closing, EventAt, Hearing}
use Rattle.scp_spec.proofs.Sets.Least.{keeps-at}
use Rattle.scp_spec.proofs.Sets.RuleLists.{least-keeps, least-start}
use Rattle.scp_spec.proofs.Runs.Events.{IsWithin}
use Rattle.scp_spec.proofs.Runs.Openings.{HaveSlicesWithin}
use Rattle.scp_spec.proofs.Runs.KeptSteps.{AllIn}
use Rattle.scp_spec.proofs.Sets.Lists.{all-left, all-right}

-- What the closure says of a run

nodes-in : (R : Names) (nodes : List HostedNode) → list_all (keeps R) (map node_rule nodes) ≡ true → HaveSlicesWithin R nodes
nodes-in R [] h u q e r = cc
nodes-in R (x ∷ xs) h u q e r =
    let p = and_parts (keeps R (node_rule x)) (list_all (keeps R) (map node_rule xs)) h in
    go (x.name == u) refl p.0 e (nodes-in R xs p.1 u q)
  where
    go : (b : Bool) → (x.name == u) ≡ b → keeps R (node_rule x) ≡ true
        → (if b then Some x.slices else slices_of xs u) ≡ Some q
        → (slices_of xs u ≡ Some q → R u ≡ true → within (names q) R ≡ true) → within (names q) R ≡ true
    go true n k s ih =
        let m : x.slices ≡ q = cc in
        subst (λ (t : Slices). within (names t) R ≡ true) m
        (keeps-at R (node_rule x) k (and_from (R x.name) true (ap R (eqb-true x.name u n) ∙ r) refl))
    go false n k s ih = ih s r

events-in : (R : Names) (i : ℕ) (entries : List Entry)
    → list_all (keeps R) (flat_map (λ x. announcement_rules i x.event) entries) ≡ true → AllIn R i entries
events-in R i [] h = tt
events-in R i (x ∷ xs) h = (
  one x.event (all-left (keeps R) (announcement_rules i x.event) (flat_map (λ x. announcement_rules i x.event) xs) h),
  events-in R i xs
      (all-right (keeps R) (announcement_rules i x.event) (flat_map (λ x. announcement_rules i x.event) xs) h),
)
  where
    one : (e : Step) → list_all (keeps R) (announcement_rules i e) ≡ true → IsWithin R i e
    one (Delivers u size (Read e)) k = λ y r s. go (e.slot == i) y k r s
      where
        go : (b : Bool) → b ≡ true
            → list_all (keeps R) (if b then record { sources = u ∷ e.sender ∷ []; gives = names e.slices } ∷ [] else [])
            ≡ true → R u ≡ true → R e.sender ≡ true → within (names e.slices) R ≡ true
        go true y k r s =
            keeps-at R (record { sources = u ∷ e.sender ∷ []; gives = names e.slices })
            (and_parts (keeps R (record { sources = u ∷ e.sender ∷ []; gives = names e.slices })) true k).0
            (and_from (R u) (R e.sender && true) r (and_from (R e.sender) true s refl))
        go false y k r s = absurd (false≢true y)
    one (Reslices j u q) k = λ y r. go (j == i) y k r
      where
        go : (b : Bool) → b ≡ true
            → list_all (keeps R) (if b then record { sources = u ∷ []; gives = names q } ∷ [] else []) ≡ true
            → R u ≡ true → within (names q) R ≡ true
        go true y k r =
            keeps-at R (record { sources = u ∷ []; gives = names q })
            (and_parts (keeps R (record { sources = u ∷ []; gives = names q })) true k).0 (and_from (R u) true r refl)
        go false y k r = absurd (false≢true y)
    one _ k = tt

-- what was delivered to members of a set by members, and which slices were given to them, as the kept steps have it
abbrev pub IsKeptIn : Names → KeptStep → Type 0
IsKeptIn S (EventAt u (Take e)) = S u ≡ true → S e.sender ≡ true → within (names e.slices) S ≡ true
IsKeptIn S (EventAt u (Reslice q)) = S u ≡ true → within (names q) S ≡ true
IsKeptIn S _ = Unit {0}

abbrev pub if_kept : Names → Option KeptStep → Type 0
if_kept S None = Unit {0}
if_kept S (Some k) = IsKeptIn S k

all-option : (S : Names) (o : Option KeptStep) (ks : List KeptStep) → if_kept S o → AllByRecursion (IsKeptIn S) ks
    → AllByRecursion (IsKeptIn S) (cons_option o ks)
all-option S None ks h k = k
all-option S (Some x) ks h k = (h, k)

option-all : (S : Names) (o : Option KeptStep) (ks : List KeptStep) → AllByRecursion (IsKeptIn S) (cons_option o ks)
    → if_kept S o × AllByRecursion (IsKeptIn S) ks
option-all S None ks h = (tt, h)
option-all S (Some x) ks h = (h.0, h.1)

-- a kept step, of which nothing is asked
free : (S : Names) (b : Bool) (k : KeptStep) → IsKeptIn S k → if_kept S (when_kept b k)
free S true k h = h
free S false k h = tt

-- what is kept for one set, of what lies in another
kept_step-from : (R S : Names) (i : ℕ) (e : Step) → IsWithin S i e → if_kept S (kept_step R i e)
kept_step-from R S i (Opens j) h = free S (j == i) Opening tt
kept_step-from R S i (Closes j) h = free S (j == i) Closing tt
kept_step-from R S i (Proposes j u x) h = free S ((j == i) && R u) (EventAt u (Propose x)) tt
kept_step-from R S i (Delivers u size (Read e)) h = go ((e.slot == i) && R u && R e.sender) refl
  where
    go : (b : Bool) → ((e.slot == i) && R u && R e.sender) ≡ b → if_kept S (when_kept b (EventAt u (Take e)))
    go true y = h (and_parts (e.slot == i) (R u) (and_parts ((e.slot == i) && R u) (R e.sender) y).0).0
    go false y = tt
kept_step-from R S i (Delivers u size (Fault n)) h = tt
kept_step-from R S i (Hears j u from kind k) h = free S ((j == i) && R u && R from) (Hearing u from kind k) tt
kept_step-from R S i (NominationTimerFires j u r) h = free S ((j == i) && R u) (EventAt u (NominationTimer r)) tt
kept_step-from R S i (BallotTimerFires j u n) h = free S ((j == i) && R u) (EventAt u (BallotTimer n)) tt
kept_step-from R S i (Reslices j u q) h = go ((j == i) && R u) refl
  where
    go : (b : Bool) → ((j == i) && R u) ≡ b → if_kept S (when_kept b (EventAt u (Reslice q)))
    go true y = h (and_parts (j == i) (R u) y).0
    go false y = tt

-- and back, where the other lies in the one
pub kept_step-to : (R S : Names) (i : ℕ) (e : Step) → AreWithin S R → if_kept S (kept_step R i e) → IsWithin S i e
kept_step-to R S i (Delivers u size (Read e)) w h = λ y r s.
    (subst (λ b. if_kept S (when_kept b (EventAt u (Take e))))
    (and_from ((e.slot == i) && R u) (R e.sender) (and_from (e.slot == i) (R u) y (w u r)) (w e.sender s)) h) r s
kept_step-to R S i (Reslices j u q) w h =
    λ y r. (subst (λ b. if_kept S (when_kept b (EventAt u (Reslice q)))) (and_from (j == i) (R u) y (w u r)) h) r
kept_step-to R S i _ w h = tt

pub all_kept-from : (R S : Names) (i : ℕ) (entries : List Entry) → AllIn S i entries
    → AllByRecursion (IsKeptIn S) (kept_of R i entries)
unfolding kept_of
all_kept-from R S i [] h = tt
all_kept-from R S i (x ∷ xs) h =
    all-option S (kept_step R i x.event) (kept_of R i xs) (kept_step-from R S i x.event h.0)
    (all_kept-from R S i xs h.1)

pub all_kept-to : (R S : Names) (i : ℕ) (entries : List Entry) → AreWithin S R
    → AllByRecursion (IsKeptIn S) (kept_of R i entries) → AllIn S i entries
unfolding kept_of
all_kept-to R S i [] w h = tt
all_kept-to R S i (x ∷ xs) w h =
    let p = option-all S (kept_step R i x.event) (kept_of R i xs) h in
    (kept_step-to R S i x.event w p.0, all_kept-to R S i xs w p.1)

-- what lies in R in one world does in the other, where the kept steps are the same
pub all_in-other : (R : Names) (i : ℕ) (one other : List Entry) → kept_of R i one ≡ kept_of R i other → AllIn R i one
    → AllIn R i other
all_in-other R i one other same h =
    all_kept-to R R i other (λ u r. r) (subst (AllByRecursion (IsKeptIn R)) same (all_kept-from R R i one h))

pub closure-start : (nodes : List HostedNode) (i v : ℕ) (entries : List Entry) → closure nodes i v entries v ≡ true
unfolding closure
closure-start nodes i v entries =
    least-start (map node_rule nodes ++ flat_map (λ x. announcement_rules i x.event) entries) v

pub closure-keeps : (nodes : List HostedNode) (i v : ℕ) (entries : List Entry)
    → list_all (keeps (closure nodes i v entries))
    (map node_rule nodes ++ flat_map (λ x. announcement_rules i x.event) entries) ≡ true
unfolding closure
closure-keeps nodes i v entries =
    least-keeps (map node_rule nodes ++ flat_map (λ x. announcement_rules i x.event) entries) v

-- what the closure of a run says of its hosted members, and of what is delivered among them
pub nodes-closed : (nodes : List HostedNode) (i v : ℕ) (entries : List Entry)
    → HaveSlicesWithin (closure nodes i v entries) nodes
nodes-closed nodes i v entries =
    let R = closure nodes i v entries in
    nodes-in R nodes
    (all-left (keeps R) (map node_rule nodes) (flat_map (λ x. announcement_rules i x.event) entries)
    (closure-keeps nodes i v entries))

pub events-closed : (nodes : List HostedNode) (i v : ℕ) (entries : List Entry)
    → AllIn (closure nodes i v entries) i entries
events-closed nodes i v entries =
    let R = closure nodes i v entries in
    events-in R i entries
    (all-right (keeps R) (map node_rule nodes) (flat_map (λ x. announcement_rules i x.event) entries)
    (closure-keeps nodes i v entries))
