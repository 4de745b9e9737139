-- R is closed for a node: it holds the node's name, the names of its slices, its leaders, and what senders in R
-- announced; each step keeps it closed. `Runs` stands on it.
use Rattle.scp_types.specs.declared.event.NodeEvent.{NodeEvent}
use Rattle.std.proofs.Common.{◌≡◌, ℕ, ◌+◌, Bool, true, false, cond, List, [], ◌∷◌, ◌++◌, filter, if◌then◌else◌, refl}
use Rattle.std.specs.List.{list_all}
use Rattle.std.proofs.lemmas.Bool.{and_from, and_parts}
use Rattle.scp_types.specs.Trees.{Slices}
use Rattle.scp_types.specs.Statements.{Sent, kind_of}
use Rattle.scp_spec.specs.Sets.{Names, within}
use Rattle.scp_spec.specs.Satisfaction.{names}
use Rattle.scp_spec.specs.Weights.{weight}
use Rattle.scp_spec.specs.Rows.{is_row_of, with_row, is_taken}
use Rattle.scp_spec.specs.Leaders.{leader, best, neighbours, is_near, hash, beats}
use Rattle.scp_spec.specs.Nodes.{Node, change, step, in_round, with_timeout}
use Rattle.scp_types.specs.declared.event.NodeEvent.TheVariants.{Propose, Take, NominationTimer, BallotTimer, Reslice}
use Rattle.scp_spec.proofs.Nodes.Views.{announces_in, Closing}
use Rattle.scp_spec.proofs.Nodes.Made.{if_node, if_node-if, step-keeps}

-- R is closed for the node: it has its name, the names of its slices, its leaders, and what its senders in R announced
pub record Good (R : Names) (n : Node) : Type 0 where
  pub closed : Closing R n.name n.slices n.table
  pub leaders : within n.inputs.leaders R ≡ true

pub all-with : (P : Sent → Bool) (e : Sent) (table : List Sent) → list_all P table ≡ true → P e ≡ true
    → list_all P (with_row e table) ≡ true
unfolding with_row
all-with P e [] h p = and_from (P e) true p refl
all-with P e (x ∷ xs) h p =
    let q = and_parts (P x) (list_all P xs) h in
    go (is_row_of e.sender (kind_of e.body) x) q.0 q.1 (all-with P e xs q.1 p)
  where
    go : (b : Bool) → P x ≡ true → list_all P xs ≡ true → list_all P (with_row e xs) ≡ true
        → list_all P (if b then e ∷ xs else x ∷ with_row e xs) ≡ true
    go true a r ih = and_from (P e) (list_all P xs) p r
    go false a r ih = and_from (P x) (list_all P (with_row e xs)) a ih

pub all-push : {X : Type 0} (P : X → Bool) (xs : List X) (x : X) → list_all P xs ≡ true → P x ≡ true
    → list_all P (xs ++ x ∷ []) ≡ true
all-push P [] x h p = and_from (P x) true p refl
all-push P (y ∷ ys) x h p =
    let q = and_parts (P y) (list_all P ys) h in and_from (P y) (list_all P (ys ++ x ∷ [])) q.0 (all-push P ys x q.1 p)

-- the leader is a neighbour, and so is in R
pub leader-in : (R : Names) (slot round v : ℕ) (q : Slices) → R v ≡ true → within (names q) R ≡ true
    → R (leader slot round v q) ≡ true
unfolding leader neighbours best
leader-in R slot round v q i w = pick v (neighbours slot round v q) i (and_from (R v) _ i (kept (names q) w))
  where
    kept : (us : List ℕ) → within us R ≡ true
        → within (filter (λ u. is_near (weight q u) (hash slot 1 round u)) us) R ≡ true
    kept [] w = refl
    kept (u ∷ us) w =
        let p = and_parts (R u) (within us R) w in go (is_near (weight q u) (hash slot 1 round u)) p.0 (kept us p.1)
      where
        go : (b : Bool) → R u ≡ true → within (filter (λ u. is_near (weight q u) (hash slot 1 round u)) us) R ≡ true
            → within (cond b (u ∷ filter (λ u. is_near (weight q u) (hash slot 1 round u)) us)
            (filter (λ u. is_near (weight q u) (hash slot 1 round u)) us)) R ≡ true
        go true j h = and_from (R u) _ j h
        go false j h = h

    pick : (u : ℕ) (us : List ℕ) → R u ≡ true → within us R ≡ true → R (best (beats slot round) u us) ≡ true
    pick u [] j h = j
    pick u (x ∷ xs) j h =
        let p = and_parts (R x) (within xs R) h in
        pick (if beats slot round x u then x else u) xs (choose (beats slot round x u) p.0) p.1
      where
        choose : (b : Bool) → R x ≡ true → R (if b then x else u) ≡ true
        choose true h = h
        choose false h = j

-- of what a node in R is told, a sender in R announces what lies in R, and so do the names of new slices
abbrev pub IsFit : Names → NodeEvent → Type 0
IsFit R (Take e) = announces_in R e ≡ true
IsFit R (Reslice q) = within (names q) R ≡ true
IsFit R _ = Unit {0}

pub good-change : (R : Names) (n : Node) (e : NodeEvent) → Good R n → IsFit R e → if_node (Good R) (change n e)
unfolding change
good-change R n (Propose x) g k =
    record {
      closed = g.closed;
      leaders =
          all-push R n.inputs.leaders (leader n.slot 1 n.name n.slices) g.leaders
          (leader-in R n.slot 1 n.name n.slices g.closed.has g.closed.own);
    }
good-change R n (Take e) g k = if_node-if (Good R) (is_taken n.table e) (record n { table = with_row e n.table })
    (record {
      closed = record {
        has = g.closed.has;
        own = g.closed.own;
        rows = all-with (announces_in R) e n.table g.closed.rows k;
      };
      leaders = g.leaders;
    })
good-change R n (NominationTimer r) g k = if_node-if (Good R) _ (in_round n (r + 1))
    (record {
      closed = g.closed;
      leaders =
          all-push R n.inputs.leaders (leader n.slot (r + 1) n.name n.slices) g.leaders
          (leader-in R n.slot (r + 1) n.name n.slices g.closed.has g.closed.own);
    })
good-change R n (BallotTimer c) g k = if_node-if (Good R) _ (with_timeout n)
    (record { closed = g.closed; leaders = g.leaders })
good-change R n (Reslice q) g k =
    record { closed = record { has = g.closed.has; own = k; rows = g.closed.rows }; leaders = g.leaders }

-- R stays closed for the node
pub good-step : (R : Names) (n : Node) (e : NodeEvent) → Good R n → IsFit R e → Good R (step n e).0
good-step R n e g k =
    step-keeps (Good R)
    (λ m h. record {
      closed = h.closed;
      leaders = h.leaders;
    }) n e g (good-change R n e g k)
