-- Slices are printed member by member.
use Rattle.std.proofs.Common.{◌≡◌, ◌∙◌, ℕ, zero, suc, ◌+◌, ◌<◌, ◌≤◌, Bool, true, false, List, [], ◌∷◌, ◌++◌, length, drop, get_or, refl, sym, ap, arith, add-one, append_assoc}
use Rattle.std.specs.Fmt.{decimal}
use Rattle.std.proofs.Math.ListN.{drop_of_length-le}
use Rattle.scp_types.specs.Trees.{Members, node, inner, Slices}
use Rattle.scp_types.specs.Shape.{members_of}
use Rattle.scp_types.specs.declared.nested.Member.{Member}
use Rattle.scp_types.specs.declared.nested.Member.TheVariants.{Node, Set}
use Rattle.line_script.specs.Script.{Bytes}
use Rattle.line_script.specs.Names.{text_of_name}
use Rattle.line_script.specs.Printed.{behind_commas, text_of_set, comma, text_of_slices, without_first}
use Rattle.line_script.proofs.RunLaws.{append_nothing}

node_next : (ms : List Member) (i u : ℕ) (m : Member) → i < length ms → m ≡ get_or ms i m → m ≡ Node u → members_of (drop i ms) ≡ node u (members_of (drop (suc i) ms))
node_next [] i u m lt e f = absurd (omega arith)
node_next (x ∷ rest) zero u m lt e f = ap (λ (y : Member). members_of (y ∷ rest)) (sym e ∙ f)
node_next (x ∷ rest) (suc i) u m lt e f = node_next rest i u m (omega arith) e f

set_next : (ms : List Member) (i : ℕ) (m : Member) (s : Slices) → i < length ms → m ≡ get_or ms i m → m ≡ Set s → members_of (drop i ms) ≡ inner s.threshold s.members (members_of (drop (suc i) ms))
set_next [] i m s lt e f = absurd (omega arith)
set_next (x ∷ rest) zero m s lt e f = ap (λ (y : Member). members_of (y ∷ rest)) (sym e ∙ f)
set_next (x ∷ rest) (suc i) m s lt e f = set_next rest i m s (omega arith) e f

-- one member more
member_pushed : (old one two text after before target : Bytes) (first : Bool) → one ≡ old ++ comma first → two ≡ one ++ text → before ≡ 44 ∷ (text ++ after)
    → old ++ without_first first before ≡ target → two ++ after ≡ target
member_pushed old one two text after before target true e f g h =
    let so_far : old ++ (text ++ after) ≡ target = rw g at h in
    rw (f, e, append_nothing old) (append_assoc old text after ∙ so_far)
member_pushed old one two text after before target false e f g h =
    let so_far : old ++ (44 ∷ (text ++ after)) ≡ target = rw g at h in
    rw (f, e) (append_assoc (old ++ 44 ∷ []) text after ∙ append_assoc old (44 ∷ []) (text ++ after) ∙ so_far)

pub node_pushed : (old one two target : Bytes) (first : Bool) (ms : List Member) (i u : ℕ) (m : Member) → i < length ms → m ≡ get_or ms i m → m ≡ Node u
    → one ≡ old ++ comma first → two ≡ one ++ text_of_name u → old ++ without_first first (behind_commas (members_of (drop i ms))) ≡ target
    → two ++ behind_commas (members_of (drop (i + 1) ms)) ≡ target
node_pushed old one two target first ms i u m lt is named e f h =
    rw add-one (member_pushed old one two (text_of_name u) (behind_commas (members_of (drop (suc i) ms))) (behind_commas (members_of (drop i ms))) target first e f (ap behind_commas (node_next ms i u m lt is named)) h)

pub set_pushed : (old one two target : Bytes) (first : Bool) (ms : List Member) (i : ℕ) (m : Member) (s : Slices) → i < length ms → m ≡ get_or ms i m → m ≡ Set s
    → one ≡ old ++ comma first → two ≡ one ++ text_of_slices s → old ++ without_first first (behind_commas (members_of (drop i ms))) ≡ target
    → two ++ behind_commas (members_of (drop (i + 1) ms)) ≡ target
set_pushed old one two target first ms i m s lt is set e f h =
    rw add-one (member_pushed old one two (text_of_slices s) (behind_commas (members_of (drop (suc i) ms))) (behind_commas (members_of (drop i ms))) target first e f (ap behind_commas (set_next ms i m s lt is set)) h)

nothing_left : (first : Bool) → without_first first [] ≡ []
nothing_left true = refl
nothing_left false = refl

-- the bracket behind the last member
pub set_ended : (old text new : Bytes) (first : Bool) (ms : List Member) (i k : ℕ) (own : Members) → length ms ≤ i
    → text ++ without_first first (behind_commas (members_of (drop i ms))) ≡ old ++ (decimal k ++ 91 ∷ drop 1 (behind_commas own))
    → new ≡ text ++ 93 ∷ [] → new ≡ old ++ text_of_set k (drop 1 (behind_commas own))
set_ended old text new first ms i k own end h e =
    let none_left : without_first first (behind_commas (members_of (drop i ms))) ≡ [] =
    ap (λ (rest : List Member). without_first first (behind_commas (members_of rest))) (drop_of_length-le ms end) ∙ nothing_left first in
    let all : text ≡ old ++ (decimal k ++ 91 ∷ drop 1 (behind_commas own)) = sym (append_nothing text) ∙ sym (ap (λ bs. text ++ bs) none_left) ∙ h in
    e ∙ ap (λ bs. bs ++ 93 ∷ []) all
    ∙ append_assoc old (decimal k ++ 91 ∷ drop 1 (behind_commas own)) (93 ∷ []) ∙ ap (λ bs. old ++ bs) (append_assoc (decimal k) (91 ∷ drop 1 (behind_commas own)) (93 ∷ []))
