-- What was lost of the budgets of a network, which fit words, so that no sum of it is cut.
use Rattle.std.specs.Prelude.{◌≡◌, ◌+◌, ◌<◌, ◌^◌, ◌++◌, ℕ, List, [], ◌∷◌, Option, Some, None, option_map}
use Rattle.std.proofs.Common.{◌∙◌, refl, sym, ap, subst, arith}
use Rattle.scp_spec.specs.Hosts.{Config}
use Rattle.scp_spec.specs.Rosters.{Roster, Shares}
use Rattle.live_feed.specs.Lasting.{SlotLines, both_drawn, drawn_at, nothing_drawn, sum_of}
use Rattle.live_feed.specs.declared.answering.Drawn.{Drawn}
use Rattle.line_request.specs.Outlines.{IsConfigOf, IsRosterAs, Outlined}
use Rattle.live_host.specs.Compacted.{AppliedLine, AreSmall, IsSmall, all_drawn, noted_behind, slot_lines}
use Rattle.live_host.specs.Futures.{moved_config, moved_roster}

-- ---- sums of one kind
sum-is : (m n : ℕ) → m + n < 2 ^ 64 → sum_of m n ≡ m + n
sum-is m n small = omega (arith, small)

-- what is summed up: events, bytes, or openings and closings
abbrev Kind : Type 0
Kind = Drawn → ℕ

abbrev IsKind : Kind → Type 0
IsKind k =
    (k nothing_drawn ≡ 0) × ((a b : Drawn) → k (both_drawn a b) ≡ sum_of (k a) (k b))
    × ((e : AppliedLine) (es : List AppliedLine) (d : Drawn) → k (all_drawn (e ∷ es) d) ≡ k e.drawn + k (all_drawn es d))

events-kind : IsKind (λ d. d.events)
events-kind = (refl, λ a b. refl, λ e es d. refl)

bytes-kind : IsKind (λ d. d.bytes)
bytes-kind = (refl, λ a b. refl, λ e es d. refl)

opens-kind : IsKind (λ d. d.opens)
opens-kind = (refl, λ a b. refl, λ e es d. refl)

-- the lines of a slot from some on, with one more drawing
slot-sum : (k : Kind) → IsKind k → (s : SlotLines) (es : List AppliedLine) (d : Drawn)
    → k s.drawn + k (all_drawn es d) < 2 ^ 64
    → sum_of (k (drawn_at (noted_behind (Some s) es))) (k d) ≡ k s.drawn + k (all_drawn es d)
slot-sum k is s [] d small = sum-is (k s.drawn) (k d) small
slot-sum k is s (e ∷ es) d small =
    let all = is.2 e es d in
    let one : k (both_drawn s.drawn e.drawn) ≡ k s.drawn + k e.drawn =
    is.1 s.drawn e.drawn ∙ sum-is (k s.drawn) (k e.drawn) (omega (arith, small, all)) in
    slot-sum k is (record { lines = s.lines ++ e.number ∷ []; drawn = both_drawn s.drawn e.drawn }) es d
    (omega (arith, small, all, one)) ∙ omega (arith, all, one)

slot-sums : (k : Kind) → IsKind k → (es : List AppliedLine) (d : Drawn) → k (all_drawn es d) < 2 ^ 64
    → sum_of (k (drawn_at (slot_lines es))) (k d) ≡ k (all_drawn es d)
slot-sums k is [] d small =
    ap (λ n. sum_of n (k d)) is.0 ∙ sum-is 0 (k d) (omega (arith, small)) ∙ omega arith
slot-sums k is (e ∷ es) d small =
    let all = is.2 e es d in
    slot-sum k is (record { lines = e.number ∷ []; drawn = e.drawn }) es d (omega (arith, small, all)) ∙ sym all

-- with what was lost before
lost-sum : (k : Kind) → IsKind k → (lost : Drawn) (es : List AppliedLine) (d : Drawn) (n left : ℕ)
    → n ≡ (left + k (all_drawn es d)) + k lost → n < 2 ^ 64
    → n ≡ left + k (both_drawn lost (both_drawn (drawn_at (slot_lines es)) d))
lost-sum k is lost es d n left same small =
    let slot = is.1 (drawn_at (slot_lines es)) d ∙ slot-sums k is es d (omega (arith, same, small)) in
    let all = is.1 lost (both_drawn (drawn_at (slot_lines es)) d)
    ∙ ap (sum_of (k lost)) slot
    ∙ sum-is (k lost) (k (all_drawn es d)) (omega (arith, same, small)) in
    omega (arith, all, same)

-- ---- configurations
abbrev opens_of : Option Roster → ℕ
opens_of None = 0
opens_of (Some r) = r.shares.opens

roster-lost : (lost : Drawn) (es : List AppliedLine) (d : Drawn) (reserved : Option (List ℕ × Shares))
    (c r : Option Roster) → IsRosterAs reserved c → AreSmall reserved
    → c ≡ option_map (moved_roster lost) (option_map (moved_roster (all_drawn es d)) r)
    → c ≡ option_map (moved_roster (both_drawn lost (both_drawn (drawn_at (slot_lines es)) d))) r
roster-lost lost es d reserved c None like small same = same
roster-lost lost es d None None (Some r) like small same = absurd (cc)
roster-lost lost es d None (Some c) (Some r) like small same = absurd (cc)
roster-lost lost es d (Some given) None (Some r) like small same = absurd like
roster-lost lost es d (Some given) (Some c) (Some r) like small same =
    let opens : c.shares.opens ≡ (r.shares.opens + (all_drawn es d).opens) + lost.opens = ap opens_of same in
    let few : c.shares.opens < 2 ^ 64 = subst (λ n. n < 2 ^ 64) (sym (ap (λ s. s.opens) like.reserved)) small in
    same ∙ ap (λ n. Some (record r { shares = record r.shares { opens = n } }))
    (sym opens ∙ lost-sum (λ d. d.opens) opens-kind lost es d c.shares.opens r.shares.opens opens few)

abbrev config_with : ℕ → Config → ℕ → ℕ → Option Roster → Config
config_with slots c events bytes roster =
    record c { budgets = record { events = events; bytes = bytes; slots = slots }; roster = roster }

pub lost-more : (g : ℕ) (o : Outlined) (c rest left : Config) (lost : Drawn) (es : List AppliedLine) (d : Drawn)
    → IsSmall o → IsConfigOf g o c → c ≡ moved_config lost rest → rest ≡ moved_config (all_drawn es d) left
    → c ≡ moved_config (both_drawn lost (both_drawn (drawn_at (slot_lines es)) d)) left
lost-more g o c rest left lost es d small of one two =
    let both : c ≡ moved_config lost (moved_config (all_drawn es d) left) = one ∙ ap (moved_config lost) two in
    let events = lost-sum (λ d. d.events) events-kind lost es d c.budgets.events left.budgets.events
    (ap (λ c. c.budgets.events) both) (subst (λ b. b.events < 2 ^ 64) (sym of.budgets) small.events) in
    let bytes = lost-sum (λ d. d.bytes) bytes-kind lost es d c.budgets.bytes left.budgets.bytes
    (ap (λ c. c.budgets.bytes) both) (subst (λ b. b.bytes < 2 ^ 64) (sym of.budgets) small.bytes) in
    let roster = roster-lost lost es d o.roster c.roster left.roster of.roster small.opens (ap (λ c. c.roster) both) in
    ap (λ l. config_with c.budgets.slots l c.budgets.events c.budgets.bytes c.roster) both
    ∙ ap (λ n. config_with n left c.budgets.events c.budgets.bytes c.roster) (ap (λ c. c.budgets.slots) both)
    ∙ ap (λ n. config_with left.budgets.slots left n c.budgets.bytes c.roster) events
    ∙ ap (λ n. config_with left.budgets.slots left (left.budgets.events
    + (both_drawn lost (both_drawn (drawn_at (slot_lines es)) d)).events) n c.roster) bytes
    ∙ ap (λ r. config_with left.budgets.slots left (left.budgets.events
    + (both_drawn lost (both_drawn (drawn_at (slot_lines es)) d)).events) (left.budgets.bytes
    + (both_drawn lost (both_drawn (drawn_at (slot_lines es)) d)).bytes) r) roster
