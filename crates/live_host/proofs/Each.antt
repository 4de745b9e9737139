-- Bytes that come to each node of a list, and lines that have fields.
use Rattle.std.proofs.Common.{◌≡◌, ◌∙◌, ◌<◌, Option, Some, None, ◌≤◌, ◌-◌, ◌++◌, ◌∷◌, [], ℕ, List, Result, Ok, Err, OnOk, length, take, drop, get_or, take_all, append_assoc, sym, inr, IfOk, ap, subst, arith}
use Rattle.scp_types.specs.declared.event.Event.TheVariants.{Deliver}
use Rattle.host_network.specs.Decoding.{step_of}
use Rattle.host_network.specs.Standing.{Machine}
use Rattle.live_network.specs.Telling.{IsServedBy}
use Rattle.line_script.specs.Script.{AreFields, Bytes, IsSkipped}
use Rattle.live_feed.specs.Served.{LineReply}
use Rattle.live_host.specs.Hosts.{AreFieldsAnswered, AreServed, Live, Serves}
use Rattle.live_host.specs.Hosts.AreServed.{next_node, none_left}
use Rattle.live_host.specs.declared.all.NodeAnswer.{NodeAnswer}

-- what is so where nothing failed is what follows from it
pub on-ok : {A E P Q : Type 0} (r : Result A E) → OnOk r P → (P → Q) → OnOk r Q
on-ok (Ok x) p f = f p
on-ok (Err e) p f = tt

pub first-and-rest : {X : Type 0} (xs : List X) (x : X) → x ≡ get_or xs 0 x → 1 ≤ length xs → xs ≡ x ∷ take (length xs - 1) (drop 1 xs)
first-and-rest [] x is le = absurd (omega (arith, le))
first-and-rest (y ∷ ys) x is le =
    let count : length (y ∷ ys) - 1 ≡ length ys = omega arith in
    let all : take (length (y ∷ ys) - 1) ys ≡ ys = ap (λ n. take n ys) count ∙ take_all (length ys) ys (omega arith) in
    ap (λ z. z ∷ ys) (sym is) ∙ ap (λ zs. x ∷ zs) (sym all)

pub none-served : (bytes us : List ℕ) (m : Machine) → length us < 1 → AreServed bytes us m [] m
none-served bytes [] m h = none_left
none-served bytes (u ∷ us) m h = absurd (omega (arith, h))

pub all-served : (bytes us rest : List ℕ) (u : ℕ) (old now new : Machine) (a : NodeAnswer) (before mid after : List NodeAnswer) → us ≡ u ∷ rest
    → (a.node ≡ u) × IsServedBy old (step_of (Deliver u bytes)) now a.served → mid ≡ before ++ a ∷ []
    → ((more : List NodeAnswer) × (after ≡ mid ++ more) × AreServed bytes rest now more new) → (more : List NodeAnswer) × (after ≡ before ++ more) × AreServed bytes us old more new
all-served bytes us rest u old now new a before mid after is one pushed others = (
  a ∷ others.0,
  others.1 ∙ ap (λ l. l ++ others.0) pushed ∙ append_assoc before (a ∷ []) others.0,
  subst (λ l. AreServed bytes l old (a ∷ others.0) new) (ap (λ v. v ∷ rest) one.0 ∙ sym is)
      (next_node a (subst (λ v. IsServedBy old (step_of (Deliver v bytes)) now a.served) (sym one.0) one.1) others.2),
)

-- ---- the fields of a line
pub is-not-skipped : {X E : Type 0} (r : Result (Option X) E) (x : X) → r ≡ Ok (Some x) → r ≡ Ok None → ⊥
is-not-skipped r x some none = absurd (cc)

pub line-served : {P E : Type 0} (read : P → LineReply) (r : Result P E) (n : ℕ) (line : Bytes) (fields : List Bytes) (old new : Live) → (IsSkipped line → ⊥) → AreFields line fields
    → IfOk r (λ p. AreFieldsAnswered n fields old (read p) new) → IfOk r (λ p. Serves old n (Some line) (read p) new)
line-served read (Ok p) n line fields old new runs are answered = inr (runs, inr (fields, are, answered))
line-served read (Err e) n line fields old new runs are answered = tt
