use Rattle.std.proofs.Common.{◌∙◌, ◌≡◌, ◌+◌, ◌++◌, ◌∷◌, [], ap, sym, rules, length, length-append}
use Rattle.node_store.specs.Archives.{sent_of, sents_of}
use Rattle.node_table.proofs.Tabled.{indexed-ascends, push-read}
use Rattle.node_table.proofs.Filings.{sents-length, sents-push}
use Rattle.node_table.proofs.table.Table.add.Goals as goal

pub note-requires-clause-ascends : goal.note-requires-clause-ascends
note-requires-clause-ascends c = indexed-ascends (sents_of c.self.inside.rows.items) c.self.inside.index c.self.invariant.0

pub invariant_of-self-2 : goal.invariant_of-self-2
invariant_of-self-2 c =
    let rows = c.self.inside.rows.items in
    let grown : length c.push_reserved.new.rows.items ≡ length rows + 1 =
    ap length (c.push_reserved.ensures ∙ ap (λ xs. xs ++ c.args.envelope ∷ []) c.reserve.ensures.items) ∙ length-append rows (c.args.envelope ∷ []) in
    let counted : c.len-place.result ≡ length rows = c.len-place.ensures.value ∙ sym (ap length c.self.view_is) in (
      push-read (sents_of rows) (sents_of c.args.self.now) (sents_of c.push_reserved.new.rows.items) c.self.inside.index c.note.new.self (sent_of c.args.envelope) c.args.sender c.args.kind c.len-place.result
          c.self.invariant.0 (ap sents_of c.self.view_is) c.requires.none c.requires.sender c.requires.kind (search rules ∙ sym (sents-length rows))
          (ap sents_of (c.push_reserved.ensures ∙ ap (λ xs. xs ++ c.args.envelope ∷ []) c.reserve.ensures.items) ∙ sents-push rows c.args.envelope) c.in_ok-note.ensures.ok,
      search (rules, grown, counted),
    )
