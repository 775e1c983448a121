use Rattle.std.proofs.Common.{◌≡◌, length, refl, ◌∙◌, arith}
use Rattle.queues.proofs.Packs.{room_is, mid_within, before, behind, still_in_order, appended}
use Rattle.queues.proofs.Screens.append.Goals as goal

pub insert-requires-clause-room : goal.insert-requires-clause-room
insert-requires-clause-room c =
    let rows : length c.args.self.now.begins ≡ 17 = omega arith in
    room_is c.args.self.now c.args.screens.now rows c.requires.within (length c.args.bytes.now) c.if-not-has_room.ensures

pub move_on-requires : goal.move_on-requires
move_on-requires c =
    let s = c.args.self.now in
    let xs = c.args.screens.now in
    let rows : length s.begins ≡ 17 = omega arith in
    record { fits = λ k d h. omega (arith, room_is s xs rows c.requires.within (length c.args.bytes.now) c.if-not-has_room.ensures, mid_within s xs rows c.requires.within c.args.t k d c.requires.screen h) }

pub invariant_of-self : goal.invariant_of-self
invariant_of-self c =
    let s = c.args.self.now in
    let rows : length s.begins ≡ 17 = omega arith in
    record {
      from_start = before s.begins _ c.args.t _ rows c.requires.screen c.move_on.ensures.moved 0 0 (omega arith) ∙ s.from_start;
      in_order = still_in_order s.begins _ c.args.t _ rows c.requires.screen c.move_on.ensures.moved s.in_order;
    }

pub returns-clause-within : goal.returns-clause-within
returns-clause-within c =
    let s = c.args.self.now in
    let rows : length s.begins ≡ 17 = omega arith in
    let room = room_is s c.args.screens.now rows c.requires.within (length c.args.bytes.now) c.if-not-has_room.ensures in
    omega (arith, room, behind s.begins _ c.args.t _ rows c.requires.screen c.move_on.ensures.moved 16 0 c.requires.screen (omega arith))

pub returns-clause-shown : goal.returns-clause-shown
returns-clause-shown c =
    let s = c.args.self.now in
    let rows : length s.begins ≡ 17 = omega arith in
    let room = room_is s c.args.screens.now rows c.requires.within (length c.args.bytes.now) c.if-not-has_room.ensures in
    appended s _ c.args.screens.now _ _ c.args.bytes.now c.args.t rows c.requires.within c.requires.screen (omega arith) room c.move_on.ensures.moved refl c.insert.ensures
