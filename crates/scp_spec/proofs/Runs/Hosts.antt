-- Isolation over two whole host histories. The law `isolation`, `Crowds`, and the crates `host_compare` and
-- `host_journal` stand on it.
use Rattle.std.proofs.Common.{◌≡◌, ℕ, Bool, true, false, ◌==◌, Option, Some, List, [], ◌∷◌, map, if◌then◌else◌, is_some, refl, sym, ◌∙◌, ap, ap₂, subst, inl, inr, ◌⊎◌}
use Rattle.std.proofs.lemmas.Bool.{false≢true, eqb-true}
use Rattle.scp_spec.specs.Networks.{HostedNode, Net, Step, Reply, slices_of, net_step}
use Rattle.scp_spec.specs.Hosts.{Entry, Config, journal_with, journal, net_at, reply_at, host_run, applied_entries, nets, new_net, nodes_of, steps_of, entries}
use Rattle.scp_spec.specs.Submissions.{net_run, answers_of, config_of}
use Rattle.scp_spec.specs.Isolation.{closure, kept_of, outs_of, SameCast, Isolation}
use Rattle.scp_spec.proofs.Networks.Effects.{effect-keeps, net_step-keeps}
use Rattle.scp_spec.proofs.Runs.SameSteps.{journals-agree}

step-number : (net : Net) (e : Step) → (net_step net e).0.number ≡ net.number
step-number net e =
    net_step-keeps (λ n. n.number ≡ net.number) (λ n x q k. (effect-keeps n x).number ∙ k) net e refl

abbrev after : List Net → ℕ → Step → List Net
after ns g e = map (λ n. if n.number == g then (net_step n e).0 else n) ns

net_at-same : (ns : List Net) (g : ℕ) (e : Step) (n : Net) → net_at ns g ≡ Some n
    → net_at (after ns g e) g ≡ Some (net_step n e).0
net_at-same [] g e n h = cc
net_at-same (m ∷ ms) g e n h = go (m.number == g) refl h (net_at-same ms g e n)
  where
    go : (b : Bool) → (m.number == g) ≡ b → (if b then Some m else net_at ms g) ≡ Some n
        → (net_at ms g ≡ Some n → net_at (after ms g e) g ≡ Some (net_step n e).0)
        → net_at ((if b then (net_step m e).0 else m) ∷ after ms g e) g ≡ Some (net_step n e).0
    go true y k ih = let q : m ≡ n = cc in
        rw (ap (λ x. x == g) (step-number m e) ∙ y) (ap {B = Option Net} (λ (x : Net). Some (net_step x e).0) q)
    go false y k ih = rw y (ih k)

net_at-other : (ns : List Net) (g j : ℕ) (e : Step) → (j == g) ≡ false → net_at (after ns j e) g ≡ net_at ns g
net_at-other [] g j e o = refl
net_at-other (m ∷ ms) g j e o = go (m.number == j) refl (net_at-other ms g j e o)
  where
    go : (b : Bool) → (m.number == j) ≡ b → net_at (after ms j e) g ≡ net_at ms g
        → net_at ((if b then (net_step m e).0 else m) ∷ after ms j e) g
        ≡ (if m.number == g then Some m else net_at ms g)
    go true y ih = let no : (m.number == g) ≡ false = ap (λ x. x == g) (eqb-true m.number j y) ∙ o in
        rw (ap (λ x. x == g) (step-number m e) ∙ no, no) ih
    go false y ih = ap (λ x. if m.number == g then Some m else x) ih

-- the steps of one network of a host
unfoldable pub steps_to : ℕ → List (ℕ × Step) → List Step
steps_to g [] = []
steps_to g (c ∷ cs) = if c.0 == g then c.1 ∷ steps_to g cs else steps_to g cs

-- what is gathered of a host's calls to one network, each with its reply, is what that network gives by itself
module _ {X : Type 0} (g : ℕ) (more : Step → Reply → List X → List X) (of_host : List (ℕ × Step) → List Reply → List X)
    (of_net : Net → List Step → List X) (none : (n : Net) → of_host [] [] ≡ of_net n [])
    (call : (c : ℕ × Step) (cs : List (ℕ × Step)) (r : Reply) (rs : List Reply)
    → of_host (c ∷ cs) (r ∷ rs) ≡ (if c.0 == g then more c.1 r (of_host cs rs) else of_host cs rs))
    (next : (n : Net) (e : Step) (es : List Step)
    → of_net n (e ∷ es) ≡ more e (net_step n e).1 (of_net (net_step n e).0 es)) where
  gathered : (calls : List (ℕ × Step)) (ns : List Net) (n : Net) → net_at ns g ≡ Some n
      → of_host calls (host_run ns calls) ≡ of_net n (steps_to g calls)
  unfolding host_run steps_to
  gathered [] ns n h = none n
  gathered (c ∷ cs) ns n h =
      call c cs (reply_at (net_at ns c.0) c.1) (host_run (after ns c.0 c.1) cs)
      ∙ go (c.0 == g) refl (λ ns n. gathered cs ns n)
    where
      rest : ℕ → List X
      rest x = of_host cs (host_run (after ns x c.1) cs)

      go : (b : Bool) → (c.0 == g) ≡ b
          → ((ns : List Net) (n : Net) → net_at ns g ≡ Some n → of_host cs (host_run ns cs) ≡ of_net n (steps_to g cs))
          → (if b then more c.1 (reply_at (net_at ns c.0) c.1) (rest c.0) else rest c.0)
          ≡ of_net n (if b then c.1 ∷ steps_to g cs else steps_to g cs)
      go true y ih =
          let cg : c.0 ≡ g = eqb-true c.0 g y in
          ap₂ (more c.1) (ap (λ o. reply_at o c.1) (ap (net_at ns) cg ∙ h))
          (ap rest cg ∙ ih (after ns g c.1) (net_step n c.1).0 (net_at-same ns g c.1 n h))
          ∙ sym (next n c.1 (steps_to g cs))
      go false y ih = ih (after ns c.0 c.1) n (net_at-other ns g c.0 c.1 y ∙ h)

-- a history holds the journal of each of its networks
pub applied-journal : (g : ℕ) (calls : List (ℕ × Step)) (ns : List Net) (n : Net) → net_at ns g ≡ Some n
    → applied_entries g calls (host_run ns calls) ≡ journal n (steps_to g calls)
unfolding applied_entries journal
applied-journal g = gathered g journal_with (applied_entries g) journal (λ n. refl) (λ c cs r rs. refl) (λ n e es. refl)

-- and the answers of each of them
pub answers-run : (g : ℕ) (calls : List (ℕ × Step)) (ns : List Net) (n : Net) → net_at ns g ≡ Some n
    → answers_of g calls (host_run ns calls) ≡ net_run n (steps_to g calls)
unfolding answers_of net_run
answers-run g =
    gathered g (λ e r xs. record { step = e; reply = r } ∷ xs) (answers_of g) net_run (λ n. refl) (λ c cs r rs. refl)
    (λ n e es. refl)

-- the network g of a configuration
pub record HasNet (configs : List Config) (g : ℕ) : Type 0 where
  pub config : Config
  pub is : net_at (nets configs) g ≡ Some (new_net config)
  pub of : nodes_of configs g ≡ config.nodes
  pub at : config_of configs g ≡ Some config

pub find_net : (configs : List Config) (g : ℕ) → (nodes_of configs g ≡ []) ⊎ HasNet configs g
find_net [] g = inl refl
find_net (c ∷ cs) g = go (c.number == g) refl (find_net cs g)
  where
    go : (b : Bool) → (c.number == g) ≡ b → (nodes_of cs g ≡ []) ⊎ HasNet cs g
        → (nodes_of (c ∷ cs) g ≡ []) ⊎ HasNet (c ∷ cs) g
    go true y k = inr (record { config = c; is = rw y refl; of = rw y refl; at = rw y refl })
    go false y (inl e) = inl (rw y e)
    go false y (inr n) = inr (record { config = n.config; is = rw y n.is; of = rw y n.of; at = rw y n.at })

-- nobody is hosted where no nodes are
pub nobody : (nodes : List HostedNode) (w : ℕ) → nodes ≡ [] → is_some (slices_of nodes w) ≡ true → ⊥
nobody nodes w e h = false≢true (sym (ap (λ x. is_some (slices_of x w)) e) ∙ h)

pub isolation : Isolation
isolation decode one other g i v cast same u r hosted = go (find_net one.configs g) (find_net other.configs g)
  where
    go : (nodes_of one.configs g ≡ []) ⊎ HasNet one.configs g → (nodes_of other.configs g ≡ []) ⊎ HasNet other.configs g
        → outs_of i u (entries decode one g) ≡ outs_of i u (entries decode other g)
    go (inl e) n = absurd (nobody (nodes_of one.configs g) v e cast.hosted)
    go (inr a) (inl e) = absurd (nobody (nodes_of other.configs g) u e (sym (ap is_some (cast.same u r)) ∙ hosted))
    go (inr a) (inr b) =
        agree a.of b.of (applied-journal g (steps_of decode one.calls) (nets one.configs) (new_net a.config) a.is)
        (applied-journal g (steps_of decode other.calls) (nets other.configs) (new_net b.config) b.is)
        (journals-agree a.config b.config i v (steps_to g (steps_of decode one.calls))
        (steps_to g (steps_of decode other.calls))) cast same r
      where
        Claim : List HostedNode → List HostedNode → List Entry → List Entry → Type 0
        Claim h k x y =
            SameCast (closure h i v x) v h k → kept_of (closure h i v x) i x ≡ kept_of (closure h i v x) i y
            → closure h i v x u ≡ true → outs_of i u x ≡ outs_of i u y

        agree : {h h' k k' : List HostedNode} {x x' y y' : List Entry} → h ≡ h' → k ≡ k' → x ≡ x' → y ≡ y'
            → (SameCast (closure h' i v x') v h' k'
            → kept_of (closure h' i v x') i x' ≡ kept_of (closure h' i v x') i y' → (w : ℕ) → closure h' i v x' w ≡ true
            → outs_of i w x' ≡ outs_of i w y')
            → Claim h k x y
        agree {h' = h'} {k' = k'} {x' = x'} {y' = y'} p q s t f =
            subst (λ (z : (List HostedNode × List HostedNode) × (List Entry × List Entry)). Claim z.0.0 z.0.1 z.1.0 z.1.1)
            (sym (λ j. ((p j, q j), (s j, t j)))) (λ c e w. f c e u w)
