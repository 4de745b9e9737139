-- All that a line may ask of a network is answered as if there were no other.
use Rattle.std.specs.Prelude.{◌≡◌, ℕ, Bool, true, false, Some, None}
use Rattle.std.proofs.Common.{◌∙◌, refl, sym, ap, subst, true≢false}
use Rattle.live_feed.specs.Served.{LineReply}
use Rattle.line_request.specs.Outlines.{waiting_at}
use Rattle.line_request.specs.declared.ask.Ask.{Ask}
use Rattle.line_request.specs.declared.ask.Ask.TheVariants as ask
use Rattle.line_request.specs.declared.request.Declaration.{Declaration}
use Rattle.line_request.specs.declared.request.Declaration.TheVariants as declaration
use Rattle.line_request.specs.Taking.{takes_node, takes_roster}
use Rattle.host_config.specs.declared.roster.Reservation.{Reservation}
use Rattle.line_script.specs.Script.{Bytes}
use Rattle.live_host.specs.Apart.{AnswersAreGivenNextToOthers, AnswersAreLocal, HasRoomToAnswer, IsOrdered, alone}
use Rattle.live_host.specs.Blocks.{closing_line}
use Rattle.live_host.specs.Merging.{HasRoomToDeclare}
use Rattle.live_host.specs.Hosts.{AreAllAnswered, IsAskAnswered, IsEventAnswered, IsLeftText, IsShown, Live, left_at, left_by, live_at, not_shown, takes_declaration}
use Rattle.live_host.specs.declared.block.Closing.TheVariants as closing
use Rattle.live_host.proofs.Alone.{found-alone}
use Rattle.live_host.proofs.ApartLines.{HappensLocally, HappensNextTo, all-local, all-next, declared-local, declared-next, dropped-local, dropped-next, event-local, event-next, once-begun-local, once-begun-next, same-local, taken-alone, taken-next}

-- ---- what is taken
same-node : (l : Live) (g u : ℕ) → takes_node (waiting_at (alone g l).waiting g) u ≡ takes_node (waiting_at l.waiting g) u
same-node l g u = ap (λ w. takes_node w u) (found-alone g l.waiting)

same-roster : (l : Live) (g : ℕ) (r : Reservation) → takes_roster (waiting_at (alone g l).waiting g) r.names.items r.shares ≡ takes_roster (waiting_at l.waiting g) r.names.items r.shares
same-roster l g r = ap (λ w. takes_roster w r.names.items r.shares) (found-alone g l.waiting)

refused-alone : (l : Live) (g : ℕ) (d : Declaration) → HasRoomToAnswer (ask.Declare d) l → takes_declaration l g d ≡ false → takes_declaration (alone g l) g d ≡ false
refused-alone l g (declaration.Net b) room refused = by (takes_declaration (alone g l) g (declaration.Net b)) refl
  where
    by : (is : Bool) → takes_declaration (alone g l) g (declaration.Net b) ≡ is → takes_declaration (alone g l) g (declaration.Net b) ≡ false
    by true is = absurd (true≢false (sym (taken-next l g (declaration.Net b) (λ waits runs. room) is) ∙ refused))
    by false is = is
refused-alone l g (declaration.Node u q) room refused = same-node l g u ∙ refused
refused-alone l g (declaration.Roster r) room refused = same-roster l g r ∙ refused

-- what is taken of a network that does not wait is a network, for which there is room
room-for : (l : Live) (g : ℕ) (d : Declaration) → HasRoomToAnswer (ask.Declare d) l → takes_declaration (alone g l) g d ≡ true → HasRoomToDeclare g l
room-for l g (declaration.Net b) room taken waits runs = room
room-for l g (declaration.Node u q) room taken waits runs =
    absurd (true≢false (sym taken ∙ same-node l g u ∙ ap (λ w. takes_node w u) waits))
room-for l g (declaration.Roster r) room taken waits runs =
    absurd (true≢false (sym taken ∙ same-roster l g r ∙ ap (λ w. takes_roster w r.names.items r.shares) waits))

refused-next : (l : Live) (g : ℕ) (d : Declaration) → takes_declaration (alone g l) g d ≡ false → takes_declaration l g d ≡ false
refused-next l g d refused = by (takes_declaration l g d) refl
  where
    by : (is : Bool) → takes_declaration l g d ≡ is → takes_declaration l g d ≡ false
    by true is = absurd (true≢false (sym (taken-alone l g d is) ∙ refused))
    by false is = is

-- ---- questions
same-left : (l : Live) (g : ℕ) → left_at (alone g l) g ≡ left_at l g
same-left l g =
    ap (λ w. left_by w (live_at (alone g l) g)) (found-alone g l.waiting)
    ∙ ap (left_by (waiting_at l.waiting g)) (found-alone g l.running)

same-not-shown : (l : Live) (n g u : ℕ)
    → closing_line n (closing.Refused (not_shown (waiting_at (alone g l).waiting g) u))
    ≡ closing_line n (closing.Refused (not_shown (waiting_at l.waiting g) u))
same-not-shown l n g u = ap (λ w. closing_line n (closing.Refused (not_shown w u))) (found-alone g l.waiting)

shown-alone : (l : Live) (n g i u : ℕ) (text : Bytes) → IsShown n g i u l text → IsShown n g i u (alone g l) text
shown-alone l n g i u text (None, at, is) =
    (None, found-alone g l.running ∙ at, is ∙ sym (same-not-shown l n g u))
shown-alone l n g i u text (Some m, at, shown) = (Some m, found-alone g l.running ∙ at, shown)

shown-next : (l : Live) (n g i u : ℕ) (text : Bytes) → IsShown n g i u (alone g l) text → IsShown n g i u l text
shown-next l n g i u text (None, at, is) =
    (None, sym (found-alone g l.running) ∙ at, is ∙ same-not-shown l n g u)
shown-next l n g i u text (Some m, at, shown) = (Some m, sym (found-alone g l.running) ∙ at, shown)

-- ---- answers
all-answers-local : (n g : ℕ) (asked : Ask) (old new : Live) (a : LineReply) → IsOrdered old → HasRoomToAnswer asked old
    → IsAskAnswered n g asked old a new → HappensLocally g (λ l t. IsAskAnswered n g asked l a t) old new
all-answers-local n g (ask.Declare x) old new a ordered room (true, declares, is) =
    let kept = declared-local g x old new ordered declares in
    ((true, kept.0, is), kept.1, kept.2)
all-answers-local n g (ask.Declare x) old new a ordered room (false, (refused, same), is) =
    let kept = same-local g old new ordered (refused-alone old g x room refused) same in
    ((false, kept.0, is), kept.1, kept.2)
all-answers-local n g (ask.Serve e) old new a ordered room answered =
    once-begun-local n g a (IsEventAnswered n g e) (event-local n g e a) old new ordered answered
all-answers-local n g (ask.ForAll bytes) old new a ordered room answered =
    once-begun-local n g a (AreAllAnswered n g bytes) (all-local n g bytes a) old new ordered answered
all-answers-local n g ask.Left old new a ordered room (text, done, is) =
    let kept = same-local g old new ordered done is in
    ((subst (λ left. IsLeftText n g left a.text) (sym (same-left old g)) text, kept.0.0, kept.0.1), kept.1, kept.2)
all-answers-local n g (ask.Show i u) old new a ordered room (text, done, is) =
    let kept = same-local g old new ordered done is in
    ((shown-alone old n g i u a.text text, kept.0.0, kept.0.1), kept.1, kept.2)
all-answers-local n g ask.Drop old new a ordered room (taken, drops, is) =
    let kept = dropped-local g taken old new ordered drops in
    ((taken, kept.0, is), kept.1, kept.2)

all-answers-next : (n g : ℕ) (asked : Ask) (old own : Live) (a : LineReply) → IsOrdered old → HasRoomToAnswer asked old
    → IsAskAnswered n g asked (alone g old) a own → HappensNextTo g (λ l t. IsAskAnswered n g asked l a t) old own
all-answers-next n g (ask.Declare x) old own a ordered room (true, declares, is) =
    let next = declared-next g x old own (room-for old g x room declares.0) declares in
    (next.0, (true, next.1, is), next.2)
all-answers-next n g (ask.Declare x) old own a ordered room (false, (refused, same), is) =
    (old, (false, (refused-next old g x refused, refl), is), sym same)
all-answers-next n g (ask.Serve e) old own a ordered room answered =
    once-begun-next n g a (IsEventAnswered n g e) (event-next n g e a) old own ordered answered
all-answers-next n g (ask.ForAll bytes) old own a ordered room answered =
    once-begun-next n g a (AreAllAnswered n g bytes) (all-next n g bytes a) old own ordered answered
all-answers-next n g ask.Left old own a ordered room (text, done, is) =
    (old, (subst (λ left. IsLeftText n g left a.text) (same-left old g) text, done, refl), sym is)
all-answers-next n g (ask.Show i u) old own a ordered room (text, done, is) =
    (old, (shown-next old n g i u a.text text, done, refl), sym is)
all-answers-next n g ask.Drop old own a ordered room (taken, drops, is) =
    let next = dropped-next g taken old own ordered drops in
    (next.0, (taken, next.1, is), next.2)

pub answers_are_local : AnswersAreLocal
answers_are_local l t n g asked a ordered room answered =
    let kept = all-answers-local n g asked l t a ordered room answered in
    (kept.0, kept.1)

pub answers_are_given_next_to_others : AnswersAreGivenNextToOthers
answers_are_given_next_to_others l own n g asked a ordered room answered =
    let next = all-answers-next n g asked l own a ordered room answered in
    (next.0, next.1, next.2, (all-answers-local n g asked l next.0 a ordered room next.1).1)
