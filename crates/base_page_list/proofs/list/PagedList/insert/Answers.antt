use Rattle.std.proofs.Common.{arith}
use Rattle.std.specs.Vec.{vec_capacity}
use Rattle.base_page_list.proofs.PageEdits.{room_needed}
use Rattle.base_page_list.proofs.list.PagedList.insert.Goals as goal

pub insert_in-requires-clause-room : goal.insert_in-requires-clause-room
insert_in-requires-clause-room c = λ many.
    let some = rw (← c.self.view_is) at c.requires.room in
    let needed = room_needed c.args.place.page (vec_capacity c.self.inside.pages) c.self.inside.pages.items c.self.invariant.are (omega arith) some many in
    omega (arith, needed)
