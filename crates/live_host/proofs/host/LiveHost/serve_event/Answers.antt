use Rattle.std.proofs.Common.{◌∙◌, ◌++◌, Bool, Option, Some, sym, ap, ap₂, rules}
use Rattle.line_script.specs.Script.{Bytes}
use Rattle.live_feed.specs.Served.{LineReply}
use Rattle.live_feed.specs.declared.answering.Done.{Done}
use Rattle.live_network.specs.Telling.{ending_of, tellings_of}
use Rattle.live_host.specs.Blocks.{block_of}
use Rattle.live_host.specs.Hosts.{Live, live_at}
use Rattle.live_host.proofs.host.LiveHost.serve_event.Goals as goal

pub returns : goal.returns
returns c =
    let s = c.in_ok-served.served in
    let block : Bool → Bytes = λ b. block_of b c.args.place.line c.args.place.network s.slot (tellings_of s.told.items) (ending_of s) in
    let reply : Bytes → Option Done → LineReply = λ text done. record { text = text; done = done } in (
      Some c.in-Some.network.now,
      ap (λ (l : Live). live_at l c.args.place.network) (sym c.self.view_is) ∙ sym c.in-Some.ensures.value,
      (
        c.serve.new.self,
        s,
        c.in_ok-served.ensures,
        search rules,
        ap₂ reply
            (c.in_ok-pushed.ensures ∙ ap (λ l. l ++ block c.args.place.bytes) c.new-text.ensures.bytes ∙ ap block c.requires)
            (search rules),
      ),
    )
