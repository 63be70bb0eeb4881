use Rattle.bimap_tree.proofs.ordered.Ordered.insert_at.Goals as goal

pub insert_last-requires-clause-past : goal.insert_last-requires-clause-past
insert_last-requires-clause-past g c k is = (c.requires.route k is).past c.if-route.true

pub insert_along-requires-clause-route : goal.insert_along-requires-clause-route
insert_along-requires-clause-route g c k is = (c.requires.route k is).noted c.if-route.false
