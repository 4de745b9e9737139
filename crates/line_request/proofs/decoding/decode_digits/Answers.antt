use Rattle.std.proofs.Common.{rules, ◌≡◌, Some}
use Rattle.line_script.specs.Names.{octets_in}
use Rattle.line_request.proofs.BackLaws.{encodes_back}
use Rattle.line_request.proofs.decoding.decode_digits.Goals as goal

pub returns-clause-back : goal.returns-clause-back
returns-clause-back c =
    let read : octets_in c.args.digits.now ≡ Some c.as_slice.result.now = search rules in
    encodes_back _ _ _ _ c.in_ok-decoded.ensures read
