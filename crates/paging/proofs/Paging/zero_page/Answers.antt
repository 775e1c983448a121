use Rattle.std.proofs.Common.{◌%◌, arith}
use Rattle.paging.specs.Tables.Slot.{page}
use Rattle.paging.specs.Pages.{InUse}
use Rattle.paging.proofs.Filling.{sound_frame, frame_filled}
use Rattle.paging.proofs.Paging.zero_page.Goals as goal

pub zero_frame-requires : goal.zero_frame-requires
zero_frame-requires c =
    record { small = c.frame-n.ensures.fits; within = rw c.frame-n.ensures.value (c.requires.sound.usable (page c.args.p c.args.i) (c.requires.process, c.requires.page)).1 }

pub returns : goal.returns
returns c =
    let g = c.args.self.now in
    let f = c.args.frames.now in
    let u : InUse g (page c.args.p c.args.i) = (c.requires.process, c.requires.page) in
    record {
      sound = sound_frame g f _ _ _ _ (λ _. 0) c.requires.sound u c.frame-n.ensures.value (omega arith) c.zero_frame.ensures.rest;
      filled = frame_filled g f _ _ _ _ (λ _. 0) c.requires.sound u c.frame-n.ensures.value (omega arith) c.zero_frame.ensures.rest
          (λ a d. c.zero_frame.ensures.here (a % 4096) (omega arith));
    }
