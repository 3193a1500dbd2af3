mod Scripts
mod KubectlLines
mod Finding
