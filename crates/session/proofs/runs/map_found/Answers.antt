use Rattle.session.proofs.runs.map_found.Goals as goal

pub returns : goal.returns
returns g c s = rw (c.in-Some-Some.is-0, c.in-Some-Some.is-1) ((rw c.deref.ensures at c.map_pin.ensures s))
