use Rattle.schema.proofs.Laws.Words.{placing, place_none, place_empty}
use Rattle.lookup.proofs.Laws.Cells.{greater_is}
use Rattle.lookup.proofs.words.word_place.Goals as goal

pub returns-in-None : goal.returns-in-None
returns-in-None c =
    greater_is _ _ _ c.max.ensures
    (λ h. place_none _ _ _ _ _ _ _ c.front.ensures c.begins.ensures c.in-None.is h)
    (λ h. place_empty _ _ _ _ _ _ _ c.front.ensures c.begins.ensures c.in-None.is h)

pub returns-in-Some : goal.returns-in-Some
returns-in-Some c = search placing
