-- The lines of members, one after the other.
use Rattle.std.proofs.Common.{◌≡◌, ◌∙◌, ℕ, zero, suc, ◌+◌, [], ◌∷◌, ◌++◌, drop, slice_get, refl, sym, ap, subst, append_assoc, arith}
use Rattle.line_script.specs.Script.{Bytes}
use Rattle.host_closure.specs.Announcing.{MemberList}
use Rattle.line_report.specs.Texts.{line_at, lines_from}

split-at : (members : MemberList) (n k : ℕ) → lines_from k (drop n members) ≡ line_at k (slice_get members n) ++ lines_from (k + 1) (drop (suc n) members)
split-at [] zero k = refl
split-at [] (suc n) k = refl
split-at (m ∷ members) zero k = refl
split-at (m ∷ members) (suc n) k = split-at members n k

-- one line more
pub next-line : (members : MemberList) (k : ℕ) (before now all : Bytes) → before ++ lines_from k (drop k members) ≡ all
    → now ≡ before ++ line_at k (slice_get members k) → now ++ lines_from (k + 1) (drop (k + 1) members) ≡ all
next-line members k before now all h e =
    let more : suc k ≡ k + 1 = omega arith in
    subst (λ n. now ++ lines_from (k + 1) (drop n members) ≡ all) more
    (ap (λ t. t ++ lines_from (k + 1) (drop (suc k) members)) e
    ∙ append_assoc before (line_at k (slice_get members k)) (lines_from (k + 1) (drop (suc k) members))
    ∙ sym (ap (λ t. before ++ t) (split-at members k k))
    ∙ h)
