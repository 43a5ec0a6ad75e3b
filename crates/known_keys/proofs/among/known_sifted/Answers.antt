use Rattle.known_keys.proofs.Laws.Among.{counting}
use Rattle.known_keys.proofs.among.known_sifted.Goals as goal
use Rattle.known_keys.proofs.among.known_sifted.Goals.{then-passes+then-at-codes, then-passes+else-at-codes, else-passes}

pub loop-key-preserved : goal.loop-key-preserved
loop-key-preserved c = elim c.if-passes.branch [
  | then-passes+then-at-codes w ↦ rw w.known-is (search counting)
  | then-passes+else-at-codes w ↦ rw w.known-is (search counting)
  | else-passes w ↦ rw w.known-is (search counting)
]

pub returns : goal.returns
returns c = search counting

pub loop-key-init : goal.loop-key-init
loop-key-init c = search counting

pub code_of-code-requires : goal.code_of-code-requires
code_of-code-requires c = search counting

pub passes-requires : goal.passes-requires
passes-requires c = search counting

pub place_in-at-requires : goal.place_in-at-requires
place_in-at-requires c = search counting

pub overflow_add-known : goal.overflow_add-known
overflow_add-known c = search counting

pub loop-key-smaller : goal.loop-key-smaller
loop-key-smaller c = search counting
