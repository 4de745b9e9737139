-- The line that names a network begins it.
use denote.RawPtr.{null_ptr}
use Rattle.std.specs.Prelude.{◌≡◌, ◌≤◌, ◌<◌, ◌^◌, ◌∷◌, [], not, map, length, nat_lt, is_some, codes, ℕ, Bool, true, false, List, Option, Some, None, Vec, if◌then◌else◌}
use Rattle.std.specs.Fmt.{decimal}
use Rattle.std.specs.Global.{Global}
use Rattle.std.proofs.Common.{◌∙◌, refl, sym, ap, subst, arith, inl, inr, length-append}
use Rattle.std.proofs.lemmas.Bool.Decides.{nat_tests}
use Rattle.std.proofs.lemmas.Fmt.{length-decimal-le}
use Rattle.scp_types.specs.declared.event.Event.TheVariants as event
use Rattle.scp_types.specs.declared.event.Refusal.{Refusal}
use Rattle.scp_types.specs.declared.event.Refusal.TheVariants.{SlotNotOpen}
use Rattle.scp_spec.specs.Hosts.{Config}
use Rattle.scp_spec.specs.Networks.{Net, Slot, first_that, instances_at, net_step, room_test, source, state_and_reply, tests}
use Rattle.scp_spec.specs.Networks.Reply.{Refused}
use Rattle.scp_spec.specs.Networks.Step.{Closes}
use Rattle.line_script.specs.Script.{AreFields, Bytes, IsSkipped}
use Rattle.line_script.specs.Words.{word_counter}
use Rattle.line_script.proofs.SlicesPrinted.{number_read_back}
use Rattle.live_network.specs.Serving.{IsTried}
use Rattle.live_network.specs.Serving.Ending.{IsRefused}
use Rattle.live_network.specs.Serving.IsServed.{refused}
use Rattle.live_network.specs.Serving.IsTried.{stepped}
use Rattle.live_network.specs.Telling.{IsServedBy}
use Rattle.live_network.specs.declared.hearing.Told.{Told}
use Rattle.live_network.specs.declared.served.Served.{Served}
use Rattle.live_feed.specs.Served.{LineReply}
use Rattle.live_feed.specs.WholeLines.{given}
use Rattle.live_feed.specs.declared.answering.Deed.TheVariants as deed
use Rattle.line_request.specs.Asking.{IsAskedOf}
use Rattle.line_request.specs.Outlines.{Outlined}
use Rattle.line_request.specs.Requests.{IsRequestOf}
use Rattle.line_request.specs.declared.ask.Ask.TheVariants as ask
use Rattle.line_request.specs.declared.request.Request.TheVariants as request
use Rattle.line_request.specs.declared.request.Declaration.{Declaration}
use Rattle.line_request.specs.declared.verbs.EventVerb.TheVariants as event_verb
use Rattle.line_request.specs.declared.verbs.Verb.TheVariants as verb
use Rattle.live_host.specs.Blocks.{block_of}
use Rattle.live_host.specs.Compacted.{DoAll, NamingLinesBegin, declaring, done_as, naming_line}
use Rattle.live_host.specs.Lowering.{waits_alone, runs_alone}
use Rattle.live_host.specs.Compacted.DoAll.{no_deed, one_deed}
use Rattle.live_host.specs.Hosts.{IsAnsweredOnceBegun, IsEventAnswered, Live, Serves, begun, new_live}
use Rattle.live_host.proofs.CompactedAsked.{placed, runs-then, runs-there, what-it-asks}
use Rattle.live_host.proofs.CompactedMade.{replied}
use Rattle.live_host.proofs.LoweringAsked.{IsScriptOf, asks-script, has-parts}
use Rattle.live_host.proofs.LoweringRuns.{was-declared}
use Rattle.live_host.proofs.LoweringWords.{decimal-is-field, read-as}

-- ---- its number
counter-small : (g : ℕ) (word : Bytes) → word_counter word ≡ Some g → g < 2 ^ 32
counter-small g word is = (read-as (2 ^ 32) word g is).below

declared-small : (g : ℕ) (x : Declaration) (fields : List Bytes) → IsAskedOf fields (Some (g, ask.Declare x)) → g < 2 ^ 32
declared-small g x fields asked = by (asks-script g x fields asked)
  where
    by : IsScriptOf g x fields → g < 2 ^ 32
    by (inl (before, is, e, h)) =
        let parts = has-parts g x before h in counter-small g parts.number parts.is_number
    by (inr (other, h)) = let parts = has-parts g x fields h in counter-small g parts.number parts.is_number

number-is-small : (longest g : ℕ) (bytes : Bool) (texts : List Bytes) (o : Outlined)
    → DoAll longest g (new_live bytes) (map declaring texts) (waits_alone bytes g o) → g < 2 ^ 32
number-is-small longest g bytes texts o does = by texts (new_live bytes) (waits_alone bytes g o) refl refl does
  where
    by : (texts : List Bytes) (l t : Live) → l ≡ new_live bytes → t ≡ waits_alone bytes g o
        → DoAll longest g l (map declaring texts) t → g < 2 ^ 32
    by [] l t is so no_deed = let same : new_live bytes ≡ waits_alone bytes g o = sym is ∙ so in let none = ap (λ x. x.waiting) same in cc
    by (line ∷ texts) l t is so (one_deed {now} n text act serves others) =
        let asks = what-it-asks n (given longest line) l now (replied text g deed.Declared) (done_as g deed.Declared) serves refl in
        let was = was-declared g n g asks.asked l now (replied text g deed.Declared) asks.answered refl in
        declared-small g was.what asks.fields (subst (λ o. IsAskedOf asks.fields o) was.asks asks.is_asked)

-- ---- its fields
abbrev naming-fields : ℕ → List Bytes
naming-fields g = codes "close" ∷ decimal g ∷ codes "0" ∷ []

naming-are-fields : (g : ℕ) → g < 2 ^ 32 → AreFields (naming_line g) (naming-fields g)
naming-are-fields g small = (refl, rw (decimal-is-field g (omega (arith, small))) refl)

naming-asks : (g : ℕ) → g < 2 ^ 32 → IsAskedOf (naming-fields g) (Some (g, ask.Serve (event.CloseSlot 0)))
naming-asks g small =
    let is : word_counter (decimal g) ≡ Some g = number_read_back g (2 ^ 32) small (omega (arith, small)) in
    let of : IsRequestOf (Some (verb.Event event_verb.Close)) (word_counter (decimal g)) (codes "0" ∷ [])
    (Some (g, request.Apply (event.CloseSlot 0))) =
    subst (λ x. IsRequestOf (Some (verb.Event event_verb.Close)) x (codes "0" ∷ []) (Some (g, request.Apply (event.CloseSlot 0)))) (sym is)
    (Some (request.Apply (event.CloseSlot 0)), (Some (event.CloseSlot 0), refl, refl), refl) in
    (Some (g, request.Apply (event.CloseSlot 0)), of, refl)

-- ---- its length
naming-is-given : (longest g : ℕ) → 32 ≤ longest → g < 2 ^ 32 → given longest (naming_line g) ≡ Some (naming_line g)
naming-is-given longest g long small =
    let digits = length-decimal-le 10 g (omega arith) (omega (arith, small)) (omega (arith, small)) in
    let whole = length-append (decimal g) (32 ∷ 48 ∷ []) in
    ap (λ (b : Bool). if b then None else Some (naming_line g))
    (fits (length (naming_line g)) (omega (arith, digits, whole, long)))
  where
    fits : (n : ℕ) → n ≤ longest → nat_lt longest n ≡ false
    fits n le = grind (arith, nat_tests)

-- ---- its event
closing-refused : (net : Net) → net.slots ≡ [] → first_that (tests net (Closes 0)) ≡ Some SlotNotOpen
closing-refused net none =
    ap (λ (ss : List Slot). if not (is_some (instances_at ss 0)) then Some SlotNotOpen
    else first_that (room_test net (source net.roster (Closes 0)) ∷ [])) none

is-tried : (net : Net) → net.slots ≡ [] → IsTried net (Closes 0) (Refused SlotNotOpen) net
unfolding net_step
is-tried net none =
    subst (λ (o : Option Refusal). IsTried net (Closes 0) (state_and_reply net (Closes 0) o).1 (state_and_reply net (Closes 0) o).0)
    (closing-refused net none) stepped

-- nothing is told, and the event is refused
abbrev none-told : Vec Told Global
none-told = record {
  ptr = null_ptr;
  len = 0;
  cap = 0;
  alloc = record { memory = record { seal = tt } };
  items = [];
  ok = (refl, omega arith);
  small = omega arith;
}

abbrev closing-served : Served
closing-served = record { refused = Some SlotNotOpen; stale = false; slot = 0; told = none-told }

is-served : (c : Config) → IsServedBy (begun c) (Closes 0) (begun c) closing-served
is-served c = record {
  slot = tt;
  served = λ net stands. (net, refused SlotNotOpen (is-tried net (ap (λ n. n.slots) stands.is)), stands);
}

-- ---- the line
naming-answered : (bytes : Bool) (g : ℕ) (c : Config)
    → IsAnsweredOnceBegun 1 g (IsEventAnswered 1 g (event.CloseSlot 0)) (runs_alone bytes g (begun c))
    (replied (block_of bytes 1 g 0 [] (IsRefused SlotNotOpen)) g deed.Refused) (runs_alone bytes g (begun c))
naming-answered bytes g c = (
  true,
  runs_alone bytes g (begun c),
  refl,
  (
    Some (begun c),
    runs-there bytes g (begun c),
    (begun c, closing-served, is-served c, sym (placed bytes g (begun c) (begun c)), refl),
  ),
)

not-skipped : (g : ℕ) → IsSkipped (naming_line g) → ⊥
not-skipped g skipped = let comment = skipped.0 in cc

pub naming_lines_begin : NamingLinesBegin
naming_lines_begin longest long bytes g texts o c does of =
    let small = number-is-small longest g bytes texts o does in
    let reply : LineReply = replied (block_of bytes 1 g 0 [] (IsRefused SlotNotOpen)) g deed.Refused in
    let answered =
    runs-then 1 g bytes (IsEventAnswered 1 g (event.CloseSlot 0)) o c reply (done_as g deed.Refused) (runs_alone bytes g (begun c))
    refl of (naming-answered bytes g c) in (
      reply.text,
      subst (λ line. Serves (waits_alone bytes g o) 1 line reply (runs_alone bytes g (begun c)))
          (sym (naming-is-given longest g long small))
          (inr (
            not-skipped g,
            inr (naming-fields g, naming-are-fields g small, (Some (g, ask.Serve (event.CloseSlot 0)), naming-asks g small, answered)),
          )),
    )
