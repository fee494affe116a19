use Rattle.std.proofs.Common.{refl}
use Rattle.std.specs.Vec.{vec_capacity}
use Rattle.base_page_list.proofs.PageEdits.{room_left}
use Rattle.base_page_list.proofs.list.PagedList.remove.Goals as goal

pub returns-clause-spare : goal.returns-clause-spare
returns-clause-spare c =
    let page = rw (← c.self.view_is) at c.requires.page in
    let within = rw (← c.self.view_is) at c.requires.at in
    rw (← c.self.view_is, c.remove_in.ensures.capacity)
    (room_left c.args.place.page c.args.place.at (vec_capacity c.self.inside.pages) _ _ c.self.inside.pages.items c.remove_in.new.pages.items page within c.self.invariant.fits c.remove_in.ensures.entries refl refl)
