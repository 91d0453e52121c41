use borrow.Author.Rules.{rules}
use Rattle.words.proofs.Steps.Entries.{encode_inner_length, encode_inner_space, inner_encoded_lem}
use Rattle.words.proofs.encode_inner.Goals as goal

pub returns-then-data-ne-DATA_BYTES : goal.returns-then-data-ne-DATA_BYTES
returns-then-data-ne-DATA_BYTES c = search (rules, encode_inner_length)

pub returns-then-out-ne-PARITY_BYTES : goal.returns-then-out-ne-PARITY_BYTES
returns-then-out-ne-PARITY_BYTES c = search (rules, encode_inner_space)

pub returns : goal.returns
returns c = search (rules, inner_encoded_lem)
