use Rattle.word_sets.proofs.WordPlaces.{placed}
use Rattle.word_sets.proofs.places.place.Goals as goal

pub returns : goal.returns
returns c =
    placed c.args.word c.args.words.now c.binary_search.result c.requires c.binary_search.ensures.position
