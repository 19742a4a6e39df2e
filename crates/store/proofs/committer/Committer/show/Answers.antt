use Rattle.store.proofs.Recording.{is_publication}
use Rattle.store.proofs.committer.Committer.show.Goals as goal

pub of-requires : goal.of-requires
of-requires g c = is_publication c.args.self.now.moment c.args.told c.args.change c.requires.change c.requires.told
