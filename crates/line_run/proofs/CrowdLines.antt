-- Lines of replies.
use Rattle.std.proofs.Common.{◌≡◌, ◌∙◌, List, [], ◌∷◌, ◌++◌, refl, ap, map}
use Rattle.std.specs.List.{flat_map}
use Rattle.line_script.specs.Script.{Bytes}
use Rattle.scp_spec.specs.Networks.{Reply}
use Rattle.host_compare.specs.Replies.{reply_of_answer}
use Rattle.host_compare.specs.declared.reply.Reply.{Reply as Replied}
use Rattle.host_compare.specs.declared.reply.Reply.TheVariants as replied
use Rattle.line_request.specs.Replies.{IsReply}
use Rattle.line_run.specs.ReplyLines.{answer_of}
use Rattle.line_run.specs.Crowding.{line, line_of_replied, line_of_reply}

pub line_of_one : (r : Replied) (text : Bytes) → IsReply (answer_of r) text → line text ≡ line_of_replied r
line_of_one (replied.Done outs) text e = ap line e
line_of_one (replied.Refused r) text e = ap line e

pub lines_of_model : (xs : List Replied) (ys : List Reply) → map reply_of_answer xs ≡ ys → flat_map line_of_replied xs ≡ flat_map line_of_reply ys
lines_of_model xs ys e = of_each xs ∙ ap (flat_map line_of_reply) e
  where
    of_each : (xs : List Replied) → flat_map line_of_replied xs ≡ flat_map line_of_reply (map reply_of_answer xs)
    of_each [] = refl
    of_each (x ∷ xs) = ap (λ ys. line_of_replied x ++ ys) (of_each xs)
