use Rattle.clause_numerals.proofs.Numerals.{number_back, sign_is, sign_tail, sign_put}
use Rattle.clause_numerals.proofs.Numeral.put.Goals as goal

pub put_digits-requires : goal.put_digits-requires
put_digits-requires c = sign_tail c.args.self c.args.buf.now (number_back c.args.self) (sign_is _ c.from-k.ensures c.is_negative.ensures) c.requires

pub returns : goal.returns
returns c = sign_put c.args.self c.args.buf.now (number_back c.args.self) (sign_is _ c.from-k.ensures c.is_negative.ensures) c.requires c.put_digits.ensures
