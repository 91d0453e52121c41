use Rattle.g709.proofs.Locating.{root_kept, root_not}
use Rattle.g709.proofs.locators.keep_root.Goals as goal

pub returns-then-v-eq0 : goal.returns-then-v-eq0
returns-then-v-eq0 c = root_kept _ _ _ _ c.if-v-eq0.true c.keep.ensures c.requires.0

pub returns : goal.returns
returns c = root_not _ _ _ c.if-v-eq0.false c.requires.0
