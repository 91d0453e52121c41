use borrow.Author.Rules.{rules}
use Rattle.words.proofs.Steps.Entries.{encode_outer_refused, outer_fits, outer_symbols, outer_encoded_lem}
use Rattle.words.proofs.encode_outer.Goals as goal

pub returns-in_err-tested : goal.returns-in_err-tested
returns-in_err-tested c = search (rules, encode_outer_refused)

pub divide-register-requires : goal.divide-register-requires
divide-register-requires c = search (rules, outer_symbols)

pub copy_from_slice-requires : goal.copy_from_slice-requires
copy_from_slice-requires c = search (rules, outer_fits)

pub returns : goal.returns
returns c = search (rules, outer_encoded_lem)
